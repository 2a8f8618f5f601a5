-- Lookups whose questions are explained by the logs of their asks are explained by lookups without states.
use Rattle.std.proofs.Common.{◌≡◌, ◌++◌, inl, inr, true, false, ℕ, List, [], ◌∷◌, Some, None, Ok, Err, refl, sym, subst}
use Rattle.std.specs.Prelude.{Bool, Option, Result}
use Rattle.std.specs.declared.net.ip_addr.IpAddr.{IpAddr}
use Rattle.dns_wire.specs.declared.codes.record_type.RecordType.{RecordType}
use Rattle.dns_wire.specs.declared.codes.record_type.RecordType.TheVariants as types
use Rattle.dns_names.specs.Name.{DomainName}
use Rattle.dns_names.specs.declared.error.ParseError.{ParseError}
use Rattle.dns_data.specs.declared.rdata.RData.{RData}
use Rattle.dns_messages.specs.declared.query.Query.{Query}
use Rattle.stub_config.specs.declared.strategy.LookupIpStrategy.{LookupIpStrategy}
use Rattle.stub_config.specs.declared.strategy.LookupIpStrategy.TheVariants.{Ipv4Only, Ipv6Only, Ipv4AndIpv6, Ipv6AndIpv4, Ipv6thenIpv4, Ipv4thenIpv6}
use Rattle.stub_lookup.specs.Lookup.{LookupContent}
use Rattle.stub_hosts.specs.Hosts.{HostsContent, address_data, question, static_lookup}
use Rattle.stub_client.specs.Handle.{Ask}
use Rattle.stub_client.specs.Looks.{Reply}
use Rattle.stub_core.specs.Attempts.{Attempts, AttemptsAll, AttemptsWithHosts, Continues, Lookups, Unless, UnlessMemory, WithHosts, is_final}
use Rattle.stub_core.specs.Resolver.{AnswersHost, AnswersName, LooksUp, LooksUpHost, LooksUpName, is_tried_as_name, known_type, names_for}
use Rattle.stub_core.specs.Strategies.{Both, ByStrategy, Joins, LooksUpAddresses, LooksUpIp, Then, is_out_of_memory, no_addresses}
use Rattle.stub_core.specs.declared.resolver.settings.Settings.{Settings}

-- ---- lookups that are explained by logs

-- Each lookup of a question leads from one state to another by a log, and has its reply by everything that the log fits in.
module _ {S All : Type 0} (Path : S → List Ask → S → Type 0) (Fits : List Ask → All → Type 0) (Good : All → S → Type 0)
    (stays : (s : S) → Path s [] s) (goes : (s t u : S) (log more : List Ask) → Path s log t → Path t more u → Path s (log ++ more) u)
    (left : (log more : List Ask) (all : All) → Fits (log ++ more) all → Fits log all)
    (right : (log more : List Ask) (all : All) → Fits (log ++ more) all → Fits more all) where
  abbrev pub Explained : S → S → (All → Type 0) → Type 0
  Explained old new leads =
      (log : List Ask) × Path old log new × ((all : All) → Fits log all → Good all old → Good all new × leads all)

  -- nothing happens
  nothing : (leads : All → Type 0) (old new : S) → new ≡ old → ((all : All) → leads all) → Explained old new leads
  nothing leads old new same led =
      ([], subst (Path old []) (sym same) (stays old), λ all fits good. (subst (Good all) (sym same) good, led all))

  -- one after another
  together : (first second both : All → Type 0) (old mid new : S) → Explained old mid first → Explained mid new second
      → ((all : All) → first all → second all → both all) → Explained old new both
  together first second both old mid new h k join = (
    h.0 ++ k.0,
    goes old mid new h.0 k.0 h.1 k.1,
    λ all fits good.
        let one = h.2 all (left h.0 k.0 all fits) good in
        let two = k.2 all (right h.0 k.0 all fits) one.0 in
        (two.0, join all one.1 two.1),
  )

  by : (first second : All → Type 0) (old new : S) → Explained old new first → ((all : All) → first all → second all)
      → Explained old new second
  by first second old new h turn = (
    h.0,
    h.1,
    λ all fits good.
        let one = h.2 all fits good in
        (one.0, turn all one.1),
  )

  -- each lookup is explained by lookups without states
  abbrev pub EachExplained : {A : Type 0} → Lookups S A → (All → Lookups (Unit {0}) A) → Type 0
  EachExplained {A} asks others =
      (old new : S) (asked : A) (reply : Reply) → asks old asked reply new → Explained old new (λ all. others all tt asked reply tt)

  -- ---- names

  continues-by : (ends : Bool) (rest : Reply → S → Type 0) (others : All → Reply → Unit {0} → Type 0) (last : Reply) (old : S)
      (reply : Reply) (new : S) → (rest reply new → Explained old new (λ all. others all reply tt))
      → Continues ends rest last old reply new → Explained old new (λ all. Continues ends (others all) last tt reply tt)
  continues-by true rest others last old reply new explains h =
      nothing (λ all. Continues true (others all) last tt reply tt) old new h.1 (λ all. (h.0, refl))
  continues-by false rest others last old reply new explains h = explains h

  module _ (tries : Lookups S DomainName) (others : All → Lookups (Unit {0}) DomainName) (each : EachExplained tries others) where
    attempts-by : (last : Reply) (old : S) (names : List DomainName) (reply : Reply) (new : S)
        → Attempts tries last old names reply new → Explained old new (λ all. Attempts (others all) last tt names reply tt)
    attempts-by last old [] reply new h =
        nothing (λ all. Attempts (others all) last tt [] reply tt) old new h.1 (λ all. (h.0, refl))
    attempts-by last old (name ∷ names) reply new h =
        continues-by (is_final last)
        (λ reply new. (next : Reply) × (mid : S) × tries old name next mid × Attempts tries next mid names reply new)
        (λ all reply after. (next : Reply) × (mid : Unit {0}) × others all tt name next mid × Attempts (others all) next mid names reply after)
        last old reply new
        (λ k. together (λ all. others all tt name k.0 tt) (λ all. Attempts (others all) k.0 tt names reply tt) _ old k.1 new
        (each old k.1 name k.0 k.2) (attempts-by k.0 k.1 names reply new k.3)
        (λ all first rest. (k.0, tt, first, rest)))
        h

    attempts_all-by : (text : List ℕ) (old new : S) (names : List DomainName) (reply : Reply)
        → AttemptsAll text tries old names reply new → Explained old new (λ all. AttemptsAll text (others all) tt names reply tt)
    attempts_all-by text old new names reply h =
        by (λ all. Attempts (others all) h.0 tt names reply tt) _ old new (attempts-by h.0 old names reply new h.2)
        (λ all rest. (h.0, h.1, rest))

  -- ---- hosts

  unless-by : (known : Option LookupContent) (asks : Reply → S → Type 0) (others : All → Reply → Unit {0} → Type 0) (old : S)
      (reply : Reply) (new : S) → (asks reply new → Explained old new (λ all. others all reply tt))
      → Unless known asks old reply new → Explained old new (λ all. Unless known (others all) tt reply tt)
  unless-by None asks others old reply new explains (inl memory) =
      nothing (λ all. Unless None (others all) tt reply tt) old new memory.1 (λ all. inl (memory.0, refl))
  unless-by None asks others old reply new explains (inr h) = by (λ all. others all reply tt) (λ all. Unless None (others all) tt reply tt) old new (explains h) (λ all led. inr led)
  unless-by (Some lookup) asks others old reply new explains h =
      nothing (λ all. Unless (Some lookup) (others all) tt reply tt) old new h.1 (λ all. (h.0, refl))

  -- ---- two types

  module _ (tries : Lookups S RecordType) (others : All → Lookups (Unit {0}) RecordType) (each : EachExplained tries others) where
    both-by : (first second : RecordType) (old new : S) (reply : Reply)
        → Both tries first second old reply new → Explained old new (λ all. Both (others all) first second tt reply tt)
    both-by first second old new reply h =
        together (λ all. others all tt first h.0 tt)
        (λ all. Continues (is_out_of_memory h.0) (λ reply after. (two : Reply) × others all tt second two after × Joins h.0 two reply)
        h.0 tt reply tt)
        _ old h.1 new (each old h.1 first h.0 h.2)
        (continues-by (is_out_of_memory h.0)
        (λ reply new. (two : Reply) × tries h.1 second two new × Joins h.0 two reply)
        (λ all reply after. (two : Reply) × others all tt second two after × Joins h.0 two reply)
        h.0 h.1 reply new
        (λ k. by (λ all. others all tt second k.0 tt) _ h.1 new (each h.1 new second k.0 k.1) (λ all two. (k.0, two, k.2)))
        h.3)
        (λ all one rest. (h.0, tt, one, rest))

    then-by : (first second : RecordType) (old new : S) (reply : Reply)
        → Then tries first second old reply new → Explained old new (λ all. Then (others all) first second tt reply tt)
    then-by first second old new reply h =
        together (λ all. others all tt first h.0 tt)
        (λ all. Continues (is_final h.0) (λ reply after. others all tt second reply after) h.0 tt reply tt)
        _ old h.1 new (each old h.1 first h.0 h.2)
        (continues-by (is_final h.0) (λ reply new. tries h.1 second reply new) (λ all reply after. others all tt second reply after)
        h.0 h.1 reply new (λ k. each h.1 new second reply k) h.3)
        (λ all one rest. (h.0, tt, one, rest))

    by_strategy-by : (strategy : LookupIpStrategy) (old new : S) (reply : Reply)
        → ByStrategy strategy tries old reply new → Explained old new (λ all. ByStrategy strategy (others all) tt reply tt)
    by_strategy-by Ipv4Only old new reply h = each old new types.A reply h
    by_strategy-by Ipv6Only old new reply h = each old new types.AAAA reply h
    by_strategy-by Ipv4AndIpv6 old new reply h = both-by types.A types.AAAA old new reply h
    by_strategy-by Ipv6AndIpv4 old new reply h = both-by types.AAAA types.A old new reply h
    by_strategy-by Ipv6thenIpv4 old new reply h = then-by types.AAAA types.A old new reply h
    by_strategy-by Ipv4thenIpv6 old new reply h = then-by types.A types.AAAA old new reply h

  -- ---- lookups of names and hosts

  unless_memory-by : (looks : Type 0) (others : All → Type 0) (old : S) (reply : Reply) (new : S) → (looks → Explained old new others)
      → UnlessMemory looks old reply new → Explained old new (λ all. UnlessMemory {S = Unit {0}} (others all) tt reply tt)
  unless_memory-by looks others old reply new explains (inl memory) =
      nothing (λ all. UnlessMemory {S = Unit {0}} (others all) tt reply tt) old new memory.1 (λ all. inl (memory.0, refl))
  unless_memory-by looks others old reply new explains (inr h) = by others (λ all. UnlessMemory {S = Unit {0}} (others all) tt reply tt) old new (explains h) (λ all led. inr led)

  module _ (now : ℕ) (asks : Lookups S Query) (others : All → Lookups (Unit {0}) Query) (each : EachExplained asks others) where
    with_hosts-by : (hosts : HostsContent) (old new : S) (q : Query) (reply : Reply)
        → WithHosts hosts now asks old q reply new → Explained old new (λ all. WithHosts hosts now (others all) tt q reply tt)
    with_hosts-by hosts old new q reply h =
        unless-by (static_lookup hosts q now) (λ reply new. asks old q reply new) (λ all reply after. others all tt q reply after)
        old reply new (λ k. each old new q reply k) h

    attempts_with_hosts-by : (hosts : HostsContent) (kind : RecordType) (old new : S) (names : List DomainName) (reply : Reply)
        → AttemptsWithHosts hosts now asks kind old names reply new
        → Explained old new (λ all. AttemptsWithHosts hosts now (others all) kind tt names reply tt)
    attempts_with_hosts-by hosts kind old new [] reply h =
        nothing (λ all. AttemptsWithHosts hosts now (others all) kind tt [] reply tt) old new h.1 (λ all. (h.0, refl))
    attempts_with_hosts-by hosts kind old new (name ∷ names) reply h =
        together (λ all. WithHosts hosts now (others all) tt (question name kind) h.0 tt)
        (λ all. Attempts (λ old name reply new. others all old (question name kind) reply new) h.0 tt names reply tt)
        _ old h.1 new (with_hosts-by hosts old h.1 (question name kind) h.0 h.2)
        (attempts-by (λ old name reply new. asks old (question name kind) reply new)
        (λ all old name reply new. others all old (question name kind) reply new)
        (λ old new name reply k. each old new (question name kind) reply k)
        h.0 h.1 names reply new h.3)
        (λ all first rest. (h.0, tt, first, rest))

    looks_up_addresses-by : (strategy : LookupIpStrategy) (hosts : HostsContent) (old new : S) (name : DomainName) (reply : Reply)
        → LooksUpAddresses strategy hosts now asks old name reply new
        → Explained old new (λ all. LooksUpAddresses strategy hosts now (others all) tt name reply tt)
    looks_up_addresses-by strategy hosts old new name reply h =
        by_strategy-by (λ old kind reply new. WithHosts hosts now asks old (question name kind) reply new)
        (λ all old kind reply new. WithHosts hosts now (others all) old (question name kind) reply new)
        (λ old new kind reply k. with_hosts-by hosts old new (question name kind) reply k)
        strategy old new reply h

    looks_up_ip-by : (strategy : LookupIpStrategy) (hosts : HostsContent) (finally : Option RData) (old new : S)
        (names : List DomainName) (reply : Reply) → LooksUpIp strategy hosts now asks finally old names reply new
        → Explained old new (λ all. LooksUpIp strategy hosts now (others all) finally tt names reply tt)
    looks_up_ip-by strategy hosts finally old new names reply h =
        by (λ all. AttemptsAll no_addresses (λ old name reply new. LooksUpAddresses strategy hosts now (others all) old name reply new)
        tt names h.0 tt) _ old new
        (attempts_all-by (λ old name reply new. LooksUpAddresses strategy hosts now asks old name reply new)
        (λ all old name reply new. LooksUpAddresses strategy hosts now (others all) old name reply new)
        (λ old new name reply k. looks_up_addresses-by strategy hosts old new name reply k)
        no_addresses old new names h.0 h.1)
        (λ all rest. (h.0, rest, h.2))

    module _ (settings : Settings) where
      answers_name-by : (name : Result DomainName ParseError) (kind : RecordType) (old new : S) (reply : Reply)
          → AnswersName settings now asks name kind old reply new
          → Explained old new (λ all. AnswersName settings now (others all) name kind tt reply tt)
      answers_name-by (Err error) kind old new reply h =
          nothing (λ all. AnswersName settings now (others all) (Err error) kind tt reply tt) old new h.1 (λ all. (h.0, refl))
      answers_name-by (Ok name) kind old new reply h =
          attempts_with_hosts-by settings.hosts kind old new (names_for settings name) reply h

      pub looks_up-by : (name : Result DomainName ParseError) (kind : RecordType) (old new : S) (reply : Reply)
          → LooksUp settings now asks name kind old reply new
          → Explained old new (λ all. LooksUp settings now (others all) name kind tt reply tt)
      looks_up-by name kind old new reply h =
          unless_memory-by (AnswersName settings now asks name (known_type kind) old reply new)
          (λ all. AnswersName settings now (others all) name (known_type kind) tt reply tt)
          old reply new (λ k. answers_name-by name (known_type kind) old new reply k) h

      looks_up_name-by : (finally : Option RData) (name : Result DomainName ParseError) (old new : S) (reply : Reply)
          → LooksUpName settings now asks finally name old reply new
          → Explained old new (λ all. LooksUpName settings now (others all) finally name tt reply tt)
      looks_up_name-by finally (Err error) old new reply h =
          nothing (λ all. LooksUpName settings now (others all) finally (Err error) tt reply tt) old new h.1 (λ all. (h.0, refl))
      looks_up_name-by finally (Ok name) old new reply h =
          looks_up_ip-by settings.options.ip_strategy settings.hosts finally old new (names_for settings name) reply h

      answers_host-by : (tried : Bool) (address : Option IpAddr) (name : Result DomainName ParseError) (old new : S) (reply : Reply)
          → AnswersHost settings now asks tried address name old reply new
          → Explained old new (λ all. AnswersHost settings now (others all) tried address name tt reply tt)
      answers_host-by tried None name old new reply h = looks_up_name-by None name old new reply h
      answers_host-by false (Some address) name old new reply h =
          nothing (λ all. AnswersHost settings now (others all) false (Some address) name tt reply tt) old new h.1 (λ all. (h.0, refl))
      answers_host-by true (Some address) name old new reply h =
          looks_up_name-by (Some (address_data address)) name old new reply h

      pub looks_up_host-by : (address : Option IpAddr) (name : Result DomainName ParseError) (old new : S) (reply : Reply)
          → LooksUpHost settings now asks address name old reply new
          → Explained old new (λ all. LooksUpHost settings now (others all) address name tt reply tt)
      looks_up_host-by address name old new reply h =
          unless_memory-by (AnswersHost settings now asks (is_tried_as_name settings name) address name old reply new)
          (λ all. AnswersHost settings now (others all) (is_tried_as_name settings name) address name tt reply tt)
          old reply new (λ k. answers_host-by (is_tried_as_name settings name) address name old new reply k) h
