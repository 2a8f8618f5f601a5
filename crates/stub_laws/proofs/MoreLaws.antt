-- Lookups over a relation are lookups over a weaker one, if this is weaker for the names and types that are looked up.
use Rattle.std.proofs.Common.{inl, inr, true, false, ℕ, List, [], ◌∷◌, Some, None, Ok, Err, All}
use Rattle.std.specs.Prelude.{Bool, Option, Result}
use Rattle.std.specs.declared.net.ip_addr.IpAddr.{IpAddr}
use Rattle.std.proofs.lemmas.List.Elements.{All-head, All-tail}
use Rattle.dns_wire.specs.declared.codes.record_type.RecordType.{RecordType}
use Rattle.dns_wire.specs.declared.codes.record_type.RecordType.TheVariants as types
use Rattle.dns_names.specs.Name.{DomainName}
use Rattle.dns_names.specs.declared.error.ParseError.{ParseError}
use Rattle.dns_data.specs.declared.rdata.RData.{RData}
use Rattle.dns_messages.specs.declared.query.Query.{Query}
use Rattle.stub_config.specs.declared.strategy.LookupIpStrategy.{LookupIpStrategy}
use Rattle.stub_config.specs.declared.strategy.LookupIpStrategy.TheVariants.{Ipv4Only, Ipv6Only, Ipv4AndIpv6, Ipv6AndIpv4, Ipv6thenIpv4, Ipv4thenIpv6}
use Rattle.stub_lookup.specs.Lookup.{LookupContent}
use Rattle.stub_hosts.specs.Hosts.{HostsContent, address_data, question, static_lookup}
use Rattle.stub_client.specs.Looks.{Reply}
use Rattle.stub_core.specs.Attempts.{Attempts, AttemptsWithHosts, Continues, Lookups, Unless, UnlessMemory, WithHosts, is_final}
use Rattle.stub_core.specs.Origins.{names_of}
use Rattle.stub_core.specs.Resolver.{AnswersHost, AnswersName, LooksUp, LooksUpHost, LooksUpName, is_tried_as_name, known_type, names_for}
use Rattle.stub_core.specs.Strategies.{Both, ByStrategy, Joins, LooksUpAddresses, LooksUpIp, Then, is_out_of_memory}
use Rattle.stub_core.specs.declared.resolver.settings.Settings.{Settings}

module _ {S : Type 0} where
  more-continues : (ends : Bool) (rest others : Reply → S → Type 0) (last : Reply) (old : S) (reply : Reply) (new : S)
      → (rest reply new → others reply new) → Continues ends rest last old reply new → Continues ends others last old reply new
  more-continues true rest others last old reply new f h = h
  more-continues false rest others last old reply new f h = f h

  more-unless-memory : (looks others : Type 0) (old : S) (reply : Reply) (new : S) → (looks → others)
      → UnlessMemory looks old reply new → UnlessMemory others old reply new
  more-unless-memory looks others old reply new f (inl memory) = inl memory
  more-unless-memory looks others old reply new f (inr h) = inr (f h)

  more-unless : (known : Option LookupContent) (asks others : Reply → S → Type 0) (old : S) (reply : Reply) (new : S)
      → (asks reply new → others reply new) → Unless known asks old reply new → Unless known others old reply new
  more-unless None asks others old reply new f h = more-unless-memory (asks reply new) (others reply new) old reply new f h
  more-unless (Some lookup) asks others old reply new f h = h

  -- ---- names

  module _ (tries others : Lookups S DomainName) (Named : DomainName → Type 0)
      (weaker : (name : DomainName) → Named name → (old : S) (reply : Reply) (new : S) → tries old name reply new → others old name reply new) where
    more-attempts : (last : Reply) (old : S) (names : List DomainName) → All Named names → (reply : Reply) (new : S)
        → Attempts tries last old names reply new → Attempts others last old names reply new
    more-attempts last old [] named reply new h = h
    more-attempts last old (name ∷ names) named reply new h =
        more-continues (is_final last)
        (λ reply new. (next : Reply) × (mid : S) × tries old name next mid × Attempts tries next mid names reply new)
        (λ reply new. (next : Reply) × (mid : S) × others old name next mid × Attempts others next mid names reply new)
        last old reply new
        (λ k. (
          k.0,
          k.1,
          weaker name (All-head Named name names named) old k.0 k.1 k.2,
          more-attempts k.0 k.1 names (All-tail Named name names named) reply new k.3,
        )) h

  -- ---- types

  module _ (tries others : Lookups S RecordType)
      (v4 : (old : S) (reply : Reply) (new : S) → tries old types.A reply new → others old types.A reply new)
      (v6 : (old : S) (reply : Reply) (new : S) → tries old types.AAAA reply new → others old types.AAAA reply new) where
    more-both : (first second : RecordType)
        → ((old : S) (reply : Reply) (new : S) → tries old first reply new → others old first reply new)
        → ((old : S) (reply : Reply) (new : S) → tries old second reply new → others old second reply new)
        → (old : S) (reply : Reply) (new : S) → Both tries first second old reply new → Both others first second old reply new
    more-both first second f g old reply new h = (
      h.0,
      h.1,
      f old h.0 h.1 h.2,
      more-continues (is_out_of_memory h.0)
          (λ reply new. (two : Reply) × tries h.1 second two new × Joins h.0 two reply)
          (λ reply new. (two : Reply) × others h.1 second two new × Joins h.0 two reply)
          h.0 h.1 reply new (λ k. (k.0, g h.1 k.0 new k.1, k.2)) h.3,
    )

    more-then : (first second : RecordType)
        → ((old : S) (reply : Reply) (new : S) → tries old first reply new → others old first reply new)
        → ((old : S) (reply : Reply) (new : S) → tries old second reply new → others old second reply new)
        → (old : S) (reply : Reply) (new : S) → Then tries first second old reply new → Then others first second old reply new
    more-then first second f g old reply new h = (
      h.0,
      h.1,
      f old h.0 h.1 h.2,
      more-continues (is_final h.0) (λ reply new. tries h.1 second reply new) (λ reply new. others h.1 second reply new)
          h.0 h.1 reply new (λ k. g h.1 reply new k) h.3,
    )

    more-strategy : (strategy : LookupIpStrategy) (old : S) (reply : Reply) (new : S) → ByStrategy strategy tries old reply new
        → ByStrategy strategy others old reply new
    more-strategy Ipv4Only old reply new h = v4 old reply new h
    more-strategy Ipv6Only old reply new h = v6 old reply new h
    more-strategy Ipv4AndIpv6 old reply new h = more-both types.A types.AAAA v4 v6 old reply new h
    more-strategy Ipv6AndIpv4 old reply new h = more-both types.AAAA types.A v6 v4 old reply new h
    more-strategy Ipv6thenIpv4 old reply new h = more-then types.AAAA types.A v6 v4 old reply new h
    more-strategy Ipv4thenIpv6 old reply new h = more-then types.A types.AAAA v4 v6 old reply new h

  -- ---- questions of some types

  module _ (now : ℕ) (asks others : Lookups S Query) (Named : DomainName → Type 0) (Fits : RecordType → Type 0)
      (weaker : (name : DomainName) (kind : RecordType) → Named name → Fits kind → (old : S) (reply : Reply) (new : S) → asks old (question name kind) reply new
      → others old (question name kind) reply new) where
    more-hosts : (hosts : HostsContent) (name : DomainName) (kind : RecordType) → Named name → Fits kind → (old : S) (reply : Reply) (new : S)
        → WithHosts hosts now asks old (question name kind) reply new → WithHosts hosts now others old (question name kind) reply new
    more-hosts hosts name kind named fits old reply new h =
        more-unless (static_lookup hosts (question name kind) now) (λ reply new. asks old (question name kind) reply new)
        (λ reply new. others old (question name kind) reply new) old reply new (weaker name kind named fits old reply new) h

    more-with-hosts : (hosts : HostsContent) (kind : RecordType) → Fits kind → (old : S) (names : List DomainName) → All Named names → (reply : Reply) (new : S)
        → AttemptsWithHosts hosts now asks kind old names reply new → AttemptsWithHosts hosts now others kind old names reply new
    more-with-hosts hosts kind fits old [] named reply new h = h
    more-with-hosts hosts kind fits old (name ∷ names) named reply new h = (
      h.0,
      h.1,
      more-hosts hosts name kind (All-head Named name names named) fits old h.0 h.1 h.2,
      more-attempts (λ old name reply new. asks old (question name kind) reply new) (λ old name reply new. others old (question name kind) reply new)
          Named (λ name there old reply new k. weaker name kind there fits old reply new k) h.0 h.1 names (All-tail Named name names named) reply new
          h.3,
    )

    module _ (settings : Settings) where
      more-answers-name : (name : Result DomainName ParseError) (kind : RecordType) → All Named (names_of settings name) → Fits kind → (old : S) (reply : Reply) (new : S)
          → AnswersName settings now asks name kind old reply new → AnswersName settings now others name kind old reply new
      more-answers-name (Err error) kind named fits old reply new h = h
      more-answers-name (Ok name) kind named fits old reply new h =
          more-with-hosts settings.hosts kind fits old (names_for settings name) named reply new h

      pub more-looks-up : (name : Result DomainName ParseError) (kind : RecordType) → All Named (names_of settings name) → Fits (known_type kind) → (old : S) (reply : Reply) (new : S)
          → LooksUp settings now asks name kind old reply new → LooksUp settings now others name kind old reply new
      more-looks-up name kind named fits old reply new h =
          more-unless-memory (AnswersName settings now asks name (known_type kind) old reply new)
          (AnswersName settings now others name (known_type kind) old reply new) old reply new
          (λ k. more-answers-name name (known_type kind) named fits old reply new k) h

      -- ---- addresses

      module _ (fits4 : Fits types.A) (fits6 : Fits types.AAAA) where
        more-addresses : (strategy : LookupIpStrategy) (hosts : HostsContent) (name : DomainName) → Named name → (old : S) (reply : Reply) (new : S)
            → LooksUpAddresses strategy hosts now asks old name reply new → LooksUpAddresses strategy hosts now others old name reply new
        more-addresses strategy hosts name named old reply new h =
            more-strategy (λ old kind reply new. WithHosts hosts now asks old (question name kind) reply new)
            (λ old kind reply new. WithHosts hosts now others old (question name kind) reply new)
            (λ old reply new k. more-hosts hosts name types.A named fits4 old reply new k)
            (λ old reply new k. more-hosts hosts name types.AAAA named fits6 old reply new k) strategy old reply new h

        more-looks-up-ip : (strategy : LookupIpStrategy) (hosts : HostsContent) (finally : Option RData) (old : S) (names : List DomainName)
            → All Named names → (reply : Reply) (new : S) → LooksUpIp strategy hosts now asks finally old names reply new
            → LooksUpIp strategy hosts now others finally old names reply new
        more-looks-up-ip strategy hosts finally old names named reply new h = (
          h.0,
          (
            h.1.0,
            h.1.1,
            more-attempts (λ old name reply new. LooksUpAddresses strategy hosts now asks old name reply new)
                (λ old name reply new. LooksUpAddresses strategy hosts now others old name reply new)
                Named (λ name there old reply new k. more-addresses strategy hosts name there old reply new k) h.1.0 old names named h.0 new h.1.2,
          ),
          h.2,
        )

        more-looks-up-name : (finally : Option RData) (name : Result DomainName ParseError) → All Named (names_of settings name) → (old : S) (reply : Reply) (new : S)
            → LooksUpName settings now asks finally name old reply new → LooksUpName settings now others finally name old reply new
        more-looks-up-name finally (Err error) named old reply new h = h
        more-looks-up-name finally (Ok name) named old reply new h =
            more-looks-up-ip settings.options.ip_strategy settings.hosts finally old (names_for settings name) named reply new h

        more-answers-host : (tried : Bool) (address : Option IpAddr) (name : Result DomainName ParseError) → All Named (names_of settings name) → (old : S) (reply : Reply) (new : S)
            → AnswersHost settings now asks tried address name old reply new → AnswersHost settings now others tried address name old reply new
        more-answers-host tried None name named old reply new h = more-looks-up-name None name named old reply new h
        more-answers-host false (Some address) name named old reply new h = h
        more-answers-host true (Some address) name named old reply new h =
            more-looks-up-name (Some (address_data address)) name named old reply new h

        pub more-looks-up-host : (address : Option IpAddr) (name : Result DomainName ParseError) → All Named (names_of settings name) → (old : S) (reply : Reply) (new : S)
            → LooksUpHost settings now asks address name old reply new → LooksUpHost settings now others address name old reply new
        more-looks-up-host address name named old reply new h =
            more-unless-memory (AnswersHost settings now asks (is_tried_as_name settings name) address name old reply new)
            (AnswersHost settings now others (is_tried_as_name settings name) address name old reply new) old reply new
            (λ k. more-answers-host (is_tried_as_name settings name) address name named old reply new k) h
