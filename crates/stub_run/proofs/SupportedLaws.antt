-- Lookups of a resolver ask sound questions alone.
use Rattle.std.proofs.Common.{◌≡◌, ◌<◌, ◌^◌, ◌++◌, inl, inr, true, false, ℕ, List, [], ◌∷◌, Some, None, Ok, Err, refl, ap, arith}
use Rattle.std.specs.Prelude.{Bool, IfOk, Option, Result, if◌then◌else◌, nat_lt}
use Rattle.std.specs.List.{AllByRecursion, list_any}
use Rattle.std.specs.declared.net.ip_addr.IpAddr.{IpAddr}
use Rattle.std.proofs.lemmas.Bool.Decides.{nat_tests}
use Rattle.dns_wire.specs.codes.RecordType.{type_number, type_of}
use Rattle.dns_wire.specs.declared.codes.record_type.RecordType.{RecordType}
use Rattle.dns_wire.specs.declared.codes.record_type.RecordType.TheVariants as types
use Rattle.dns_wire.specs.Name.{max_name_len, name_len}
use Rattle.dns_names.specs.Build.{append_domain}
use Rattle.dns_names.specs.Compare.{same_name}
use Rattle.dns_names.specs.Name.{DomainName}
use Rattle.dns_names.specs.Parse.{Spells, fully_qualified, name_of_text, no_label, relative, root}
use Rattle.dns_names.specs.declared.error.ParseError.{ParseError}
use Rattle.dns_names.specs.declared.error.ParseError.TheVariants.{DomainNameTooLong}
use Rattle.dns_data.specs.declared.rdata.RData.{RData}
use Rattle.dns_messages.specs.declared.query.Query.{Query}
use Rattle.stub_config.specs.declared.strategy.LookupIpStrategy.{LookupIpStrategy}
use Rattle.stub_config.specs.declared.strategy.LookupIpStrategy.TheVariants.{Ipv4Only, Ipv6Only, Ipv4AndIpv6, Ipv6AndIpv4, Ipv6thenIpv4, Ipv4thenIpv6}
use Rattle.stub_lookup.specs.Lookup.{LookupContent}
use Rattle.stub_hosts.specs.Hosts.{HostsContent, address_data, question, static_lookup, qualified}
use Rattle.stub_client.specs.Handle.{Behavior, Outcome}
use Rattle.stub_client.specs.Looks.{Reply}
use Rattle.stub_client.specs.declared.caching_client.CachingClient.{CachingClient}
use Rattle.stub_client.specs.declared.request.DnsRequest.{DnsRequest}
use Rattle.stub_core.specs.AttemptedNames.{attempted_names, is_complete, is_first, joined_before, joined_names, search_zones}
use Rattle.stub_core.specs.Attempts.{Attempts, AttemptsAll, AttemptsWithHosts, Continues, Lookups, Unless, UnlessMemory, WithHosts, is_final}
use Rattle.stub_core.specs.Resolver.{AnswersHost, AnswersName, LooksUp, LooksUpHost, LooksUpName, ResolvesName, asks_of, is_tried_as_name, known_type, names_for, request_options}
use Rattle.stub_core.specs.Strategies.{Both, ByStrategy, Joins, LooksUpAddresses, LooksUpIp, Then, is_out_of_memory, no_addresses}
use Rattle.stub_core.specs.declared.resolver.Resolver.{Resolver}
use Rattle.stub_core.specs.declared.resolver.settings.Settings.{Settings}
use Rattle.stub_link.specs.SoundQuestion.{IsFullName, IsShort, IsSoundQuestion, IsSoundReply, RepliesSoundly, Supported, SupportedUnless}
use Rattle.stub_run.proofs.SoundQuestionLaws.{Never, always-supported, answers-supported, answers-turn}

-- ---- names

qualified-full : (name : DomainName) → IsShort name → IsFullName (qualified name)
qualified-full name short = record { fqdn = refl; short = short }

appended-full : (name zone : DomainName) → IfOk (append_domain name zone) (λ joined. IsFullName joined)
appended-full name zone = by (nat_lt max_name_len (name_len (name.labels ++ zone.labels))) refl
  where
    joined : DomainName
    joined = record { is_fqdn = true; labels = name.labels ++ zone.labels }

    by : (long : Bool) → nat_lt max_name_len (name_len (name.labels ++ zone.labels)) ≡ long
        → IfOk {T = DomainName} {E = ParseError} (if long then Err DomainNameTooLong else Ok joined) (λ name. IsFullName name)
    by true e = tt
    by false e = record { fqdn = refl; short = grind (arith, nat_tests) }

before-full : (joined : Result DomainName ParseError) (later : List DomainName) → IfOk joined (λ name. IsFullName name)
    → AllByRecursion IsFullName later → AllByRecursion IsFullName (joined_before joined later)
before-full (Err error) later full h = h
before-full (Ok name) later full h = by (list_any (λ other. same_name other name) later)
  where
    by : (known : Bool) → AllByRecursion IsFullName (if known then later else name ∷ later)
    by true = h
    by false = (full, h)

joined-full : (name : DomainName) (zones later : List DomainName) → AllByRecursion IsFullName later
    → AllByRecursion IsFullName (joined_names name zones later)
joined-full name [] later h = h
joined-full name (zone ∷ zones) later h =
    before-full (append_domain name zone) (joined_names name zones later) (appended-full name zone) (joined-full name zones later h)

attempted-full : (ndots : ℕ) (domain : Option DomainName) (search : List DomainName) (name : DomainName) → IsShort name
    → AllByRecursion IsFullName (attempted_names ndots domain search name)
attempted-full ndots domain search name short = by (is_complete name) (is_first ndots name)
  where
    zones : List DomainName
    zones = search_zones domain search

    by : (complete first : Bool)
        → AllByRecursion IsFullName (if complete then qualified name ∷ []
        else if first then qualified name ∷ joined_names name zones [] else joined_names name zones (qualified name ∷ []))
    by true first = (qualified-full name short, tt)
    by false true = (qualified-full name short, joined-full name zones [] tt)
    by false false = joined-full name zones (qualified name ∷ []) (qualified-full name short, tt)

spelled-short : {text : List ℕ} {name : DomainName} → Spells text name → IsShort name
spelled-short root = omega arith
spelled-short no_label = omega arith
spelled-short (relative is fits) = fits
spelled-short (fully_qualified is fits) = fits

-- a text spells no longer name
pub text-short : ((text : List ℕ) (name : DomainName) → name_of_text text ≡ Ok name → Spells text name) → (text : List ℕ)
    → IfOk (name_of_text text) (λ name. IsShort name)
text-short spells text = by (name_of_text text) refl
  where
    by : (read : Result DomainName ParseError) → name_of_text text ≡ read → IfOk read (λ name. IsShort name)
    by (Ok name) e = spelled-short (spells text name e)
    by (Err error) e = tt

-- ---- types

-- a type is that of its number
record IsNamed (kind : RecordType) : Type 0 where
  fits : type_number kind < 2 ^ 16
  named : type_of (type_number kind) ≡ kind

known-named : ((number : ℕ) → type_number (type_of number) ≡ number) → (kind : RecordType) → type_number kind < 2 ^ 16
    → IsNamed (known_type kind)
known-named round kind small = record {
  fits = omega (arith, round (type_number kind), small);
  named = ap type_of (round (type_number kind));
}

a-named : IsNamed types.A
a-named = record { fits = omega arith; named = refl }

aaaa-named : IsNamed types.AAAA
aaaa-named = record { fits = omega arith; named = refl }

question-sound : (name : DomainName) (kind : RecordType) → IsFullName name → IsNamed kind → IsSoundQuestion (question name kind)
question-sound name kind full is = record {
  sound = record {
    fqdn = full.fqdn;
    type_fits = is.fits;
    type_named = is.named;
    class_fits = omega arith;
    class_named = refl;
  };
  short = full.short;
}

-- ---- what is true of lookups of sound questions is true of those of a resolver

module _ {S : Type 0} where
  continues-turn : (ends : Bool) (rest others : Reply → S → Type 0) (last : Reply) (old : S) (reply : Reply) (new : S)
      → (rest reply new → others reply new) → Continues ends rest last old reply new → Continues ends others last old reply new
  continues-turn true rest others last old reply new turn h = h
  continues-turn false rest others last old reply new turn h = turn h

  unless_memory-turn : (looks others : Type 0) (old : S) (reply : Reply) (new : S) → (looks → others)
      → UnlessMemory looks old reply new → UnlessMemory others old reply new
  unless_memory-turn looks others old reply new turn (inl memory) = inl memory
  unless_memory-turn looks others old reply new turn (inr h) = inr (turn h)

  unless-turn : (known : Option LookupContent) (asks others : Reply → S → Type 0) (old : S) (reply : Reply) (new : S)
      → (asks reply new → others reply new) → Unless known asks old reply new → Unless known others old reply new
  unless-turn None asks others old reply new turn h = unless_memory-turn (asks reply new) (others reply new) old reply new turn h
  unless-turn (Some lookup) asks others old reply new turn h = h

  module _ (tries others : Lookups S DomainName)
      (turn : (old new : S) (name : DomainName) (reply : Reply) → IsFullName name → tries old name reply new → others old name reply new)
    where
      attempts-turn : (last : Reply) (old : S) (names : List DomainName) (reply : Reply) (new : S) → AllByRecursion IsFullName names
          → Attempts tries last old names reply new → Attempts others last old names reply new
      attempts-turn last old [] reply new full h = h
      attempts-turn last old (name ∷ names) reply new full h =
          continues-turn (is_final last)
          (λ reply new. (next : Reply) × (mid : S) × tries old name next mid × Attempts tries next mid names reply new)
          (λ reply new. (next : Reply) × (mid : S) × others old name next mid × Attempts others next mid names reply new)
          last old reply new
          (λ k. (k.0, k.1, turn old k.1 name k.0 full.0 k.2, attempts-turn k.0 k.1 names reply new full.1 k.3))
          h

  module _ (tries others : Lookups S RecordType)
      (turn : (old new : S) (kind : RecordType) (reply : Reply) → IsNamed kind → tries old kind reply new → others old kind reply new)
    where
      both-turn : (first second : RecordType) (old new : S) (reply : Reply) → IsNamed first → IsNamed second
          → Both tries first second old reply new → Both others first second old reply new
      both-turn first second old new reply one two h = (
        h.0,
        h.1,
        turn old h.1 first h.0 one h.2,
        continues-turn (is_out_of_memory h.0)
            (λ reply new. (last : Reply) × tries h.1 second last new × Joins h.0 last reply)
            (λ reply new. (last : Reply) × others h.1 second last new × Joins h.0 last reply)
            h.0 h.1 reply new (λ k. (k.0, turn h.1 new second k.0 two k.1, k.2)) h.3,
      )

      then-turn : (first second : RecordType) (old new : S) (reply : Reply) → IsNamed first → IsNamed second
          → Then tries first second old reply new → Then others first second old reply new
      then-turn first second old new reply one two h = (
        h.0,
        h.1,
        turn old h.1 first h.0 one h.2,
        continues-turn (is_final h.0) (λ reply new. tries h.1 second reply new) (λ reply new. others h.1 second reply new)
            h.0 h.1 reply new (λ k. turn h.1 new second reply two k) h.3,
      )

      by_strategy-turn : (strategy : LookupIpStrategy) (old new : S) (reply : Reply) → ByStrategy strategy tries old reply new
          → ByStrategy strategy others old reply new
      by_strategy-turn Ipv4Only old new reply h = turn old new types.A reply a-named h
      by_strategy-turn Ipv6Only old new reply h = turn old new types.AAAA reply aaaa-named h
      by_strategy-turn Ipv4AndIpv6 old new reply h = both-turn types.A types.AAAA old new reply a-named aaaa-named h
      by_strategy-turn Ipv6AndIpv4 old new reply h = both-turn types.AAAA types.A old new reply aaaa-named a-named h
      by_strategy-turn Ipv6thenIpv4 old new reply h = then-turn types.AAAA types.A old new reply aaaa-named a-named h
      by_strategy-turn Ipv4thenIpv6 old new reply h = then-turn types.A types.AAAA old new reply a-named aaaa-named h

  module _ (now : ℕ) (asks others : Lookups S Query)
      (turn : (old new : S) (q : Query) (reply : Reply) → IsSoundQuestion q → asks old q reply new → others old q reply new) where
    with_hosts-turn : (hosts : HostsContent) (old new : S) (q : Query) (reply : Reply) → IsSoundQuestion q
        → WithHosts hosts now asks old q reply new → WithHosts hosts now others old q reply new
    with_hosts-turn hosts old new q reply sound h =
        unless-turn (static_lookup hosts q now) (λ reply new. asks old q reply new) (λ reply new. others old q reply new) old reply new
        (λ k. turn old new q reply sound k) h

    attempts_with_hosts-turn : (hosts : HostsContent) (kind : RecordType) (old new : S) (names : List DomainName) (reply : Reply)
        → IsNamed kind → AllByRecursion IsFullName names → AttemptsWithHosts hosts now asks kind old names reply new
        → AttemptsWithHosts hosts now others kind old names reply new
    attempts_with_hosts-turn hosts kind old new [] reply is full h = h
    attempts_with_hosts-turn hosts kind old new (name ∷ names) reply is full h = (
      h.0,
      h.1,
      with_hosts-turn hosts old h.1 (question name kind) h.0 (question-sound name kind full.0 is) h.2,
      attempts-turn (λ old name reply new. asks old (question name kind) reply new)
          (λ old name reply new. others old (question name kind) reply new)
          (λ old new name reply full k. turn old new (question name kind) reply (question-sound name kind full is) k)
          h.0 h.1 names reply new full.1 h.3,
    )

    looks_up_addresses-turn : (strategy : LookupIpStrategy) (hosts : HostsContent) (old new : S) (name : DomainName) (reply : Reply)
        → IsFullName name → LooksUpAddresses strategy hosts now asks old name reply new
        → LooksUpAddresses strategy hosts now others old name reply new
    looks_up_addresses-turn strategy hosts old new name reply full h =
        by_strategy-turn (λ old kind reply new. WithHosts hosts now asks old (question name kind) reply new)
        (λ old kind reply new. WithHosts hosts now others old (question name kind) reply new)
        (λ old new kind reply is k.
        with_hosts-turn hosts old new (question name kind) reply (question-sound name kind full is) k)
        strategy old new reply h

    looks_up_ip-turn : (strategy : LookupIpStrategy) (hosts : HostsContent) (finally : Option RData) (old new : S)
        (names : List DomainName) (reply : Reply) → AllByRecursion IsFullName names
        → LooksUpIp strategy hosts now asks finally old names reply new → LooksUpIp strategy hosts now others finally old names reply new
    looks_up_ip-turn strategy hosts finally old new names reply full h =
        let tried : AttemptsAll no_addresses (λ old name reply new. LooksUpAddresses strategy hosts now others old name reply new)
        old names h.0 new = (
          h.1.0,
          h.1.1,
          attempts-turn (λ old name reply new. LooksUpAddresses strategy hosts now asks old name reply new)
              (λ old name reply new. LooksUpAddresses strategy hosts now others old name reply new)
              (λ old new name reply full k. looks_up_addresses-turn strategy hosts old new name reply full k)
              h.1.0 old names h.0 new full h.1.2,
        ) in
        (h.0, tried, h.2)

    module _ (settings : Settings) where
      names-full : (name : DomainName) → IsShort name → AllByRecursion IsFullName (names_for settings name)
      names-full name short = attempted-full settings.options.ndots settings.config.domain settings.config.search name short

      answers_name-turn : (name : Result DomainName ParseError) (kind : RecordType) (old new : S) (reply : Reply)
          → IfOk name (λ n. IsShort n) → IsNamed kind → AnswersName settings now asks name kind old reply new
          → AnswersName settings now others name kind old reply new
      answers_name-turn (Err error) kind old new reply short is h = h
      answers_name-turn (Ok name) kind old new reply short is h =
          attempts_with_hosts-turn settings.hosts kind old new (names_for settings name) reply is (names-full name short) h

      pub looks_up-turn : ((number : ℕ) → type_number (type_of number) ≡ number) → (name : Result DomainName ParseError)
          (kind : RecordType) (old new : S) (reply : Reply) → IfOk name (λ n. IsShort n) → type_number kind < 2 ^ 16
          → LooksUp settings now asks name kind old reply new → LooksUp settings now others name kind old reply new
      looks_up-turn round name kind old new reply short small h =
          unless_memory-turn (AnswersName settings now asks name (known_type kind) old reply new)
          (AnswersName settings now others name (known_type kind) old reply new) old reply new
          (λ k. answers_name-turn name (known_type kind) old new reply short (known-named round kind small) k) h

      looks_up_name-turn : (finally : Option RData) (name : Result DomainName ParseError) (old new : S) (reply : Reply)
          → IfOk name (λ n. IsShort n) → LooksUpName settings now asks finally name old reply new
          → LooksUpName settings now others finally name old reply new
      looks_up_name-turn finally (Err error) old new reply short h = h
      looks_up_name-turn finally (Ok name) old new reply short h =
          looks_up_ip-turn settings.options.ip_strategy settings.hosts finally old new (names_for settings name) reply
          (names-full name short) h

      answers_host-turn : (tried : Bool) (address : Option IpAddr) (name : Result DomainName ParseError) (old new : S) (reply : Reply)
          → IfOk name (λ n. IsShort n) → AnswersHost settings now asks tried address name old reply new
          → AnswersHost settings now others tried address name old reply new
      answers_host-turn tried None name old new reply short h = looks_up_name-turn None name old new reply short h
      answers_host-turn false (Some address) name old new reply short h = h
      answers_host-turn true (Some address) name old new reply short h =
          looks_up_name-turn (Some (address_data address)) name old new reply short h

      pub looks_up_host-turn : (address : Option IpAddr) (name : Result DomainName ParseError) (old new : S) (reply : Reply)
          → IfOk name (λ n. IsShort n) → LooksUpHost settings now asks address name old reply new
          → LooksUpHost settings now others address name old reply new
      looks_up_host-turn address name old new reply short h =
          unless_memory-turn (AnswersHost settings now asks (is_tried_as_name settings name) address name old reply new)
          (AnswersHost settings now others (is_tried_as_name settings name) address name old reply new) old reply new
          (λ k. answers_host-turn (is_tried_as_name settings name) address name old new reply short k) h

-- ---- lookups of a resolver

module _ {H : Type 0} (gives others : Behavior H) (old new : Resolver H)
    (turn : (first last : CachingClient H) (q : Query) (reply : Reply) (now : ℕ) → IsSoundQuestion q
    → asks_of gives now old first q reply last → asks_of others now old first q reply last) where
  pub name-turn : ((number : ℕ) → type_number (type_of number) ≡ number) → (now : ℕ) (name : Result DomainName ParseError)
      (kind : RecordType) (reply : Reply) → IfOk name (λ n. IsShort n) → type_number kind < 2 ^ 16
      → ResolvesName gives now name kind old reply new → ResolvesName others now name kind old reply new
  name-turn round now name kind reply short small h = record {
    lookup = looks_up-turn now (asks_of gives now old) (asks_of others now old)
        (λ first last q reply sound k. turn first last q reply now sound k) old.settings round name kind old.client new.client reply
        short small h.lookup;
    settings = h.settings;
  }

  pub host-turn : (now : ℕ) (address : Option IpAddr) (name : Result DomainName ParseError) (reply : Reply)
      → IfOk name (λ n. IsShort n) → LooksUpHost old.settings now (asks_of gives now old) address name old.client reply new.client
      → LooksUpHost old.settings now (asks_of others now old) address name old.client reply new.client
  host-turn now address name reply short h =
      looks_up_host-turn now (asks_of gives now old) (asks_of others now old)
      (λ first last q reply sound k. turn first last q reply now sound k) old.settings address name old.client new.client reply short h

-- Over a handle that replies soundly, a resolver asks only what is supported, until the handle gives up.
pub resolver-supported : {H : Type 0} (GivenUp : H → Type 0) (gives : Behavior H) → RepliesSoundly GivenUp gives → (old : Resolver H)
    → old.settings.options.edns_payload_len < 2 ^ 16 → (first last : CachingClient H) (q : Query) (reply : Reply) (now : ℕ)
    → IsSoundQuestion q → asks_of gives now old first q reply last → asks_of (SupportedUnless GivenUp gives) now old first q reply last
resolver-supported GivenUp gives replies old small first last q reply now sound h =
    answers-supported GivenUp gives replies (request_options old.settings.options) small now first last q reply sound h

-- Over a handle that always does, it never asks anything else.
pub always-supports : {H : Type 0} (gives : Behavior H)
    → ((old : H) (request : DnsRequest) (now : ℕ) (outcome : Outcome) (new : H) → gives old request now outcome new
    → IsSoundReply outcome)
    → (old : Resolver H) → old.settings.options.edns_payload_len < 2 ^ 16 → (first last : CachingClient H) (q : Query) (reply : Reply)
    (now : ℕ) → IsSoundQuestion q → asks_of gives now old first q reply last → asks_of (Supported gives) now old first q reply last
always-supports {H} gives replies old small first last q reply now sound h =
    answers-turn (SupportedUnless (λ (s : H). Never s) gives) (Supported gives)
    (λ old request now outcome new k. always-supported gives old request now outcome new k)
    (request_options old.settings.options) now first last q reply
    (resolver-supported (λ (s : H). Never s) gives
    (record {
      replies = λ old request now outcome new k. inr (replies old request now outcome new k);
      stays = λ old request now outcome new k never. never;
    })
    old small first last q reply now sound h)
