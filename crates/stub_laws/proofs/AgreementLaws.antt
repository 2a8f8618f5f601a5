-- Lookups in which each question is walked agree, whatever their moments are.
use Rattle.std.proofs.Common.{◌≡◌, ℕ, ◌+◌, ◌==◌, ◌++◌, ◌⊎◌, cond, length, inl, inr, Bool, true, false, not, List, [], ◌∷◌, Some, None, Ok, Err, refl, sym, ap, subst, ◌∙◌}
use Rattle.std.specs.Prelude.{Option, Result}
use Rattle.std.specs.declared.net.ip_addr.IpAddr.{IpAddr}
use Rattle.std.proofs.lemmas.Bool.{true≢false}
use Rattle.std.proofs.lemmas.List.{map-append}
use Rattle.dns_wire.specs.codes.RecordType.{type_number, type_of}
use Rattle.dns_wire.specs.declared.codes.record_type.RecordType.{RecordType}
use Rattle.dns_wire.specs.declared.codes.record_type.RecordType.TheVariants as types
use Rattle.dns_names.specs.Name.{DomainName}
use Rattle.dns_names.specs.Reverse.{addr_of, arpa_prefix}
use Rattle.dns_names.specs.declared.error.ParseError.{ParseError}
use Rattle.dns_names.specs.declared.reverse.AddrPrefix.{AddrPrefix}
use Rattle.dns_data.specs.declared.rdata.RData.{RData}
use Rattle.dns_records.specs.Record.{Record}
use Rattle.dns_messages.specs.Response.{is_empty}
use Rattle.dns_messages.specs.declared.query.Query.{Query}
use Rattle.dns_zone.specs.Rows.{ZoneContent}
use Rattle.stub_config.specs.declared.strategy.LookupIpStrategy.{LookupIpStrategy}
use Rattle.stub_config.specs.declared.strategy.LookupIpStrategy.TheVariants.{Ipv4Only, Ipv6Only, Ipv4AndIpv6, Ipv6AndIpv4, Ipv6thenIpv4, Ipv4thenIpv6}
use Rattle.stub_lookup.specs.Lookup.{LookupContent, lookup_of, max_ttl}
use Rattle.stub_lookup.specs.declared.error.DnsError.TheVariants as dns
use Rattle.stub_lookup.specs.declared.error.NetError.{NetError}
use Rattle.stub_lookup.specs.declared.error.NetError.TheVariants as errors
use Rattle.stub_hosts.specs.Hosts.{HostsContent, address_data, entries_of, lookup_of_type, pointer_lookup, pointers, qualified, question, static_lookup}
use Rattle.stub_client.specs.Conclusions.{Conclusion, Finds, Lacks, Refuses, value_of, values}
use Rattle.stub_client.specs.Handle.{IsMessage}
use Rattle.stub_client.specs.Looks.{Reply, out_of_memory}
use Rattle.stub_core.specs.Attempts.{Attempts, AttemptsAll, AttemptsWithHosts, Continues, Lookups, Unless, UnlessMemory, WithHosts, is_final, no_names}
use Rattle.stub_core.specs.Resolver.{AnswersHost, AnswersName, LooksUp, LooksUpHost, LooksUpName, is_tried_as_name, known_type, literal, names_for, owner_of}
use Rattle.stub_core.specs.Strategies.{Both, ByStrategy, EndsWith, Joins, LooksUpAddresses, LooksUpIp, OrAddress, Then, fallback, is_out_of_memory, no_addresses}
use Rattle.stub_core.specs.declared.resolver.settings.Settings.{Settings}
use Rattle.stub_laws.specs.walk.Agreement.{Agree, ByCode, Failed, Found, Negative, OutOfMemory, Value, WithText, reply_value}
use Rattle.stub_laws.specs.walk.Walk.{ByWalk, IsWalked, WalksTo, most_aliases}
use Rattle.stub_laws.proofs.WalkLaws.{walk-same}

-- ---- replies

same-agrees : (one other first second : Reply) → one ≡ first → other ≡ second → Agree first second → Agree one other
same-agrees one other first second e f h = subst (λ (r : Reply). Agree r other) (sym e) (subst (λ (r : Reply). Agree first r) (sym f) h)

-- the value of a walk's conclusion
abbrev concluded : Conclusion → Value
concluded (Finds records) = Found records
concluded (Lacks code) = Failed (Negative code)
concluded (Refuses code) = Failed (ByCode code)

-- a walk of the question comes to the value
record HasValue (zone : ZoneContent) (q : Query) (value : Value) : Type 0 where
  conclusion : Conclusion
  walk : WalksTo zone q conclusion
  same : value ≡ concluded conclusion

walked-value : (zone : ZoneContent) (q : Query) (reply : Reply) → IsWalked zone q reply
    → (reply_value reply ≡ OutOfMemory) ⊎ HasValue zone q (reply_value reply)
walked-value zone q (Ok lookup) h = inr (record { conclusion = Finds (values lookup.message.answers); walk = h; same = refl })
walked-value zone q (Err (errors.Dns (dns.NoRecordsFound answer))) h =
    inr (record { conclusion = Lacks answer.response_code; walk = h; same = refl })
walked-value zone q (Err (errors.Dns (dns.ResponseCode code))) h = inr (record { conclusion = Refuses code; walk = h; same = refl })
walked-value zone q (Err errors.Memory) h = inl refl
walked-value zone q (Err error) h = absurd h

-- two replies to a question that are walked agree
pub walked-agree : (zone : ZoneContent) (q : Query) (one other : Reply) → IsWalked zone q one → IsWalked zone q other → Agree one other
walked-agree zone q one other h k = by (walked-value zone q one h) (walked-value zone q other k)
  where
    by : (reply_value one ≡ OutOfMemory) ⊎ HasValue zone q (reply_value one) → (reply_value other ≡ OutOfMemory) ⊎ HasValue zone q (reply_value other)
        → Agree one other
    by (inl memory) v = inl memory
    by (inr u) (inl memory) = inr (inl memory)
    by (inr u) (inr v) =
        inr (inr (u.same ∙ ap concluded (walk-same zone q.query_type most_aliases q.name u.conclusion v.conclusion u.walk v.walk) ∙ sym v.same))

-- ---- which replies end a lookup

abbrev ends_value : Value → Bool
ends_value (Found records) = not (is_empty records)
ends_value (Failed failure) = false
ends_value OutOfMemory = true

abbrev is_memory_value : Value → Bool
is_memory_value (Found records) = false
is_memory_value (Failed failure) = false
is_memory_value OutOfMemory = true

values-empty : (rs : List Record) → is_empty rs ≡ is_empty (values rs)
values-empty [] = refl
values-empty (r ∷ rs) = refl

ends-by-value : (reply : Reply) → is_final reply ≡ ends_value (reply_value reply)
ends-by-value (Ok lookup) = ap not (values-empty lookup.message.answers)
ends-by-value (Err errors.Memory) = refl
ends-by-value (Err error) = refl

memory-by-value : (reply : Reply) → is_out_of_memory reply ≡ is_memory_value (reply_value reply)
memory-by-value (Ok lookup) = refl
memory-by-value (Err errors.Memory) = refl
memory-by-value (Err error) = refl

message-value : (text : List ℕ) (reply : Reply) → IsMessage text reply → reply_value reply ≡ Failed (WithText text)
message-value text (Ok lookup) h = absurd h
message-value text (Err (errors.Message message)) h = ap (λ (t : List ℕ). Failed (WithText t)) h
message-value text (Err error) h = absurd h

abbrev State : Type 0
State = Unit {0}

-- a test of replies that is one of their values, and true of want of memory
module _ (test : Reply → Bool) (of_value : Value → Bool) (by_value : (reply : Reply) → test reply ≡ of_value (reply_value reply))
    (memory_ends : of_value OutOfMemory ≡ true) where
  stopped : (b : Bool) (rest : Reply → State → Type 0) (last : Reply) (old : State) (reply : Reply) (new : State) → b ≡ true
      → Continues b rest last old reply new → reply ≡ last
  stopped true rest last old reply new e h = h.0
  stopped false rest last old reply new e h = absurd (true≢false (sym e))

  memory-stops : (rest : Reply → State → Type 0) (last : Reply) (old : State) (reply : Reply) (new : State) → reply_value last ≡ OutOfMemory
      → Continues (test last) rest last old reply new → reply_value reply ≡ OutOfMemory
  memory-stops rest last old reply new memory h =
      ap reply_value (stopped (test last) rest last old reply new (by_value last ∙ ap of_value memory ∙ memory_ends) h) ∙ memory

  module _ (rest others : Reply → State → Type 0) (one other : Reply) (old past : State) (reply answer : Reply) (new next : State)
      (go : reply_value one ≡ reply_value other → rest reply new → others answer next → Agree reply answer) where
    continues-by : (b d : Bool) → b ≡ d → reply_value one ≡ reply_value other → Continues b rest one old reply new → Continues d others other past answer next
        → Agree reply answer
    continues-by true true e same h k = same-agrees reply answer one other h.0 k.0 (inr (inr same))
    continues-by true false e same h k = absurd (true≢false e)
    continues-by false true e same h k = absurd (true≢false (sym e))
    continues-by false false e same h k = go same h k

    continues-agree : Agree one other → Continues (test one) rest one old reply new → Continues (test other) others other past answer next → Agree reply answer
    continues-agree (inl memory) h k = inl (memory-stops rest one old reply new memory h)
    continues-agree (inr (inl memory)) h k = inr (inl (memory-stops others other past answer next memory k))
    continues-agree (inr (inr same)) h k =
        continues-by (test one) (test other) (by_value one ∙ ap of_value same ∙ sym (by_value other)) same h k

-- ---- names

module _ (tries others : Lookups State DomainName)
    (agree : (old past new next : State) (name : DomainName) (reply answer : Reply) → tries old name reply new → others past name answer next → Agree reply answer) where
  attempts-agree : (names : List DomainName) (one other : Reply) (old past : State) (reply answer : Reply) (new next : State) → Agree one other
      → Attempts tries one old names reply new → Attempts others other past names answer next → Agree reply answer
  attempts-agree [] one other old past reply answer new next a h k = same-agrees reply answer one other h.0 k.0 a
  attempts-agree (name ∷ names) one other old past reply answer new next a h k =
      continues-agree is_final ends_value ends-by-value refl
      (λ reply new. (then : Reply) × (mid : State) × tries old name then mid × Attempts tries then mid names reply new)
      (λ reply new. (then : Reply) × (mid : State) × others past name then mid × Attempts others then mid names reply new)
      one other old past reply answer new next
      (λ same x y. attempts-agree names x.0 y.0 x.1 y.1 reply answer new next (agree old past x.1 y.1 name x.0 y.0 x.2 y.2) x.3 y.3) a h k

  attempts-all-agree : (text : List ℕ) (names : List DomainName) (old past : State) (reply answer : Reply) (new next : State)
      → AttemptsAll text tries old names reply new → AttemptsAll text others past names answer next → Agree reply answer
  attempts-all-agree text names old past reply answer new next h k =
      attempts-agree names h.0 k.0 old past reply answer new next
      (inr (inr (message-value text h.0 h.1 ∙ sym (message-value text k.0 k.1)))) h.2 k.2

-- ---- two types

abbrev join_with : Value → Value → Value
join_with OutOfMemory one = OutOfMemory
join_with (Failed failure) one = one
join_with (Found records) (Found first) = Found (first ++ records)
join_with (Found records) (Failed failure) = Found records
join_with (Found records) OutOfMemory = Found records

found-joins : (records : List Record) (error : NetError) → join_with (Found records) (reply_value (Err error)) ≡ Found records
found-joins records errors.Memory = refl
found-joins records error = refl

joins-value : (one two reply : Reply) → Joins one two reply
    → (reply_value reply ≡ OutOfMemory) ⊎ (reply_value reply ≡ join_with (reply_value two) (reply_value one))
joins-value (Ok first) (Ok second) reply (inl e) = inr (ap reply_value e ∙ ap Found (map-append value_of first.message.answers second.message.answers))
joins-value (Ok first) (Ok second) reply (inr e) = inl (ap reply_value e)
joins-value (Ok first) (Err errors.Memory) reply h = inl (ap reply_value h)
joins-value (Ok first) (Err error) reply h = inr (ap reply_value h)
joins-value (Err first) (Ok second) reply h = inr (ap reply_value h ∙ sym (found-joins (values second.message.answers) first))
joins-value (Err first) (Err errors.Memory) reply h = inl (ap reply_value h)
joins-value (Err first) (Err error) reply h = inr (ap reply_value h)

memory-joins : (one two reply : Reply) → reply_value two ≡ OutOfMemory → Joins one two reply → reply_value reply ≡ OutOfMemory
memory-joins one two reply memory h = by (joins-value one two reply h)
  where
    by : (reply_value reply ≡ OutOfMemory) ⊎ (reply_value reply ≡ join_with (reply_value two) (reply_value one)) → reply_value reply ≡ OutOfMemory
    by (inl e) = e
    by (inr e) = e ∙ ap (λ (v : Value). join_with v (reply_value one)) memory

joins-agree : (one first two second reply answer : Reply) → reply_value one ≡ reply_value first → Agree two second → Joins one two reply
    → Joins first second answer → Agree reply answer
joins-agree one first two second reply answer same (inl memory) h k = inl (memory-joins one two reply memory h)
joins-agree one first two second reply answer same (inr (inl memory)) h k = inr (inl (memory-joins first second answer memory k))
joins-agree one first two second reply answer same (inr (inr again)) h k = by (joins-value one two reply h) (joins-value first second answer k)
  where
    by : (reply_value reply ≡ OutOfMemory) ⊎ (reply_value reply ≡ join_with (reply_value two) (reply_value one))
        → (reply_value answer ≡ OutOfMemory) ⊎ (reply_value answer ≡ join_with (reply_value second) (reply_value first)) → Agree reply answer
    by (inl e) g = inl e
    by (inr e) (inl f) = inr (inl f)
    by (inr e) (inr f) = inr (inr (e ∙ (λ i. join_with (again i) (same i)) ∙ sym f))

module _ (tries others : Lookups State RecordType)
    (agree : (old past new next : State) (kind : RecordType) (reply answer : Reply) → tries old kind reply new → others past kind answer next → Agree reply answer)
    (old past : State) (reply answer : Reply) (new next : State) where
  both-agree : (first second : RecordType) → Both tries first second old reply new → Both others first second past answer next → Agree reply answer
  both-agree first second h k =
      continues-agree is_out_of_memory is_memory_value memory-by-value refl
      (λ reply new. (two : Reply) × tries h.1 second two new × Joins h.0 two reply)
      (λ reply new. (two : Reply) × others k.1 second two new × Joins k.0 two reply)
      h.0 k.0 h.1 k.1 reply answer new next
      (λ same x y. joins-agree h.0 k.0 x.0 y.0 reply answer same (agree h.1 k.1 new next second x.0 y.0 x.1 y.1) x.2 y.2)
      (agree old past h.1 k.1 first h.0 k.0 h.2 k.2) h.3 k.3

  then-agree : (first second : RecordType) → Then tries first second old reply new → Then others first second past answer next → Agree reply answer
  then-agree first second h k =
      continues-agree is_final ends_value ends-by-value refl (λ reply new. tries h.1 second reply new) (λ reply new. others k.1 second reply new)
      h.0 k.0 h.1 k.1 reply answer new next (λ same x y. agree h.1 k.1 new next second reply answer x y)
      (agree old past h.1 k.1 first h.0 k.0 h.2 k.2) h.3 k.3

  strategy-agree : (strategy : LookupIpStrategy) → ByStrategy strategy tries old reply new → ByStrategy strategy others past answer next → Agree reply answer
  strategy-agree Ipv4Only h k = agree old past new next types.A reply answer h k
  strategy-agree Ipv6Only h k = agree old past new next types.AAAA reply answer h k
  strategy-agree Ipv4AndIpv6 h k = both-agree types.A types.AAAA h k
  strategy-agree Ipv6AndIpv4 h k = both-agree types.AAAA types.A h k
  strategy-agree Ipv6thenIpv4 h k = then-agree types.AAAA types.A h k
  strategy-agree Ipv4thenIpv6 h k = then-agree types.A types.AAAA h k

-- ---- hosts

-- two lookups of the hosts have the same answers
abbrev Alike : Option LookupContent → Option LookupContent → Type 0
Alike None None = Unit {0}
Alike None (Some other) = ⊥
Alike (Some one) None = ⊥
Alike (Some one) (Some other) = one.message.answers ≡ other.message.answers

alike-itself : (o : Option LookupContent) → Alike o o
alike-itself None = tt
alike-itself (Some lookup) = refl

module _ (hosts : HostsContent) (q : Query) (now later : ℕ) where
  answered-alike : (b : Bool) (rs : List Record) → Alike (cond b None (Some (lookup_of q rs (now + max_ttl)))) (cond b None (Some (lookup_of q rs (later + max_ttl))))
  answered-alike true rs = tt
  answered-alike false rs = refl

  pointers-alike : (o : Option AddrPrefix) → Alike (pointer_lookup o hosts q now) (pointer_lookup o hosts q later)
  pointers-alike None = tt
  pointers-alike (Some prefix) =
      let rs : List Record = pointers (qualified q.name) (addr_of prefix) (entries_of (addr_of prefix) hosts) in
      answered-alike (length rs == 0) rs

  type-alike : (kind : RecordType) → Alike (lookup_of_type kind hosts q now) (lookup_of_type kind hosts q later)
  type-alike types.A = alike-itself (lookup_of_type types.A hosts q now)
  type-alike types.AAAA = alike-itself (lookup_of_type types.AAAA hosts q now)
  type-alike types.PTR = pointers-alike (arpa_prefix (qualified q.name))
  type-alike kind = tt

  hosts-alike : Alike (static_lookup hosts q now) (static_lookup hosts q later)
  hosts-alike = type-alike (type_of (type_number q.query_type))

known-agree : (one other : LookupContent) (reply answer : Reply) → one.message.answers ≡ other.message.answers
    → (reply ≡ Ok one) ⊎ (reply ≡ out_of_memory) → (answer ≡ Ok other) ⊎ (answer ≡ out_of_memory) → Agree reply answer
known-agree one other reply answer same (inr memory) k = inl (ap reply_value memory)
known-agree one other reply answer same (inl e) (inr memory) = inr (inl (ap reply_value memory))
known-agree one other reply answer same (inl e) (inl f) =
    same-agrees reply answer (Ok one) (Ok other) e f (inr (inr (ap (λ (rs : List Record). Found (values rs)) same)))

memory-agree : (looks others : Type 0) (old past : State) (reply answer : Reply) (new next : State) → (looks → others → Agree reply answer)
    → UnlessMemory looks old reply new → UnlessMemory others past answer next → Agree reply answer
memory-agree looks others old past reply answer new next go (inl memory) k = inl (ap reply_value memory.0)
memory-agree looks others old past reply answer new next go (inr h) (inl memory) = inr (inl (ap reply_value memory.0))
memory-agree looks others old past reply answer new next go (inr h) (inr k) = go h k

unless-agree : (known found : Option LookupContent) → Alike known found → (asks others : Reply → State → Type 0) (old past : State) (reply answer : Reply)
    (new next : State) → (asks reply new → others answer next → Agree reply answer) → Unless known asks old reply new → Unless found others past answer next
    → Agree reply answer
unless-agree None None alike asks others old past reply answer new next go h k =
    memory-agree (asks reply new) (others answer next) old past reply answer new next go h k
unless-agree None (Some other) alike asks others old past reply answer new next go h k = absurd alike
unless-agree (Some one) None alike asks others old past reply answer new next go h k = absurd alike
unless-agree (Some one) (Some other) alike asks others old past reply answer new next go h k = known-agree one other reply answer alike h.0 k.0

-- ---- lookups at two moments

module _ (zone : ZoneContent) (now later : ℕ) where
  with-hosts-agree : (hosts : HostsContent) (q : Query) (old past : State) (reply answer : Reply) (new next : State)
      → WithHosts hosts now (ByWalk zone) old q reply new → WithHosts hosts later (ByWalk zone) past q answer next → Agree reply answer
  with-hosts-agree hosts q old past reply answer new next h k =
      unless-agree (static_lookup hosts q now) (static_lookup hosts q later) (hosts-alike hosts q now later)
      (λ reply new. ByWalk zone old q reply new) (λ reply new. ByWalk zone past q reply new) old past reply answer new next
      (λ x y. walked-agree zone q reply answer x y) h k

  names-agree : (hosts : HostsContent) (kind : RecordType) (names : List DomainName) (old past : State) (reply answer : Reply) (new next : State)
      → AttemptsWithHosts hosts now (ByWalk zone) kind old names reply new → AttemptsWithHosts hosts later (ByWalk zone) kind past names answer next
      → Agree reply answer
  names-agree hosts kind [] old past reply answer new next h k =
      inr (inr (message-value no_names reply h.0 ∙ sym (message-value no_names answer k.0)))
  names-agree hosts kind (name ∷ names) old past reply answer new next h k =
      attempts-agree (λ old name reply new. ByWalk zone old (question name kind) reply new) (λ old name reply new. ByWalk zone old (question name kind) reply new)
      (λ old past new next name reply answer x y. walked-agree zone (question name kind) reply answer x y)
      names h.0 k.0 h.1 k.1 reply answer new next
      (with-hosts-agree hosts (question name kind) old past h.0 k.0 h.1 k.1 h.2 k.2) h.3 k.3

  module _ (settings : Settings) (old past : State) (reply answer : Reply) (new next : State) where
    answers-name-agree : (name : Result DomainName ParseError) (kind : RecordType) → AnswersName settings now (ByWalk zone) name kind old reply new
        → AnswersName settings later (ByWalk zone) name kind past answer next → Agree reply answer
    answers-name-agree (Err error) kind h k = inr (inr (ap reply_value (h.0 ∙ sym k.0)))
    answers-name-agree (Ok name) kind h k = names-agree settings.hosts kind (names_for settings name) old past reply answer new next h k

    pub looks-up-agree : (name : Result DomainName ParseError) (kind : RecordType) → LooksUp settings now (ByWalk zone) name kind old reply new
        → LooksUp settings later (ByWalk zone) name kind past answer next → Agree reply answer
    looks-up-agree name kind h k =
        memory-agree (AnswersName settings now (ByWalk zone) name (known_type kind) old reply new)
        (AnswersName settings later (ByWalk zone) name (known_type kind) past answer next) old past reply answer new next
        (answers-name-agree name (known_type kind)) h k

    -- ---- hosts

    or-address-agree : (b d : Bool) → b ≡ d → (rdata : RData) (one other : Reply) → reply_value one ≡ reply_value other
        → OrAddress b rdata now one reply → OrAddress d rdata later other answer → Agree reply answer
    or-address-agree true true e rdata one other same h k = same-agrees reply answer one other h k (inr (inr same))
    or-address-agree true false e rdata one other same h k = absurd (true≢false e)
    or-address-agree false true e rdata one other same h k = absurd (true≢false (sym e))
    or-address-agree false false e rdata one other same h k = known-agree (fallback rdata now) (fallback rdata later) reply answer refl h k

    memory-address : (b : Bool) (rdata : RData) (moment : ℕ) (last given : Reply) → b ≡ true → OrAddress b rdata moment last given → given ≡ last
    memory-address true rdata moment last given e h = h
    memory-address false rdata moment last given e h = absurd (true≢false (sym e))

    ends-with-agree : (finally : Option RData) (one other : Reply) → Agree one other → EndsWith finally now one reply → EndsWith finally later other answer
        → Agree reply answer
    ends-with-agree None one other a h k = same-agrees reply answer one other h k a
    ends-with-agree (Some rdata) one other (inl memory) h k =
        inl (ap reply_value (memory-address (is_final one) rdata now one reply (ends-by-value one ∙ ap ends_value memory) h) ∙ memory)
    ends-with-agree (Some rdata) one other (inr (inl memory)) h k =
        inr (inl (ap reply_value (memory-address (is_final other) rdata later other answer (ends-by-value other ∙ ap ends_value memory) k) ∙ memory))
    ends-with-agree (Some rdata) one other (inr (inr same)) h k =
        or-address-agree (is_final one) (is_final other) (ends-by-value one ∙ ap ends_value same ∙ sym (ends-by-value other)) rdata one other same h k

    looks-up-ip-agree : (strategy : LookupIpStrategy) (finally : Option RData) (names : List DomainName)
        → LooksUpIp strategy settings.hosts now (ByWalk zone) finally old names reply new
        → LooksUpIp strategy settings.hosts later (ByWalk zone) finally past names answer next → Agree reply answer
    looks-up-ip-agree strategy finally names h k =
        ends-with-agree finally h.0 k.0
        (attempts-all-agree (λ old name reply new. LooksUpAddresses strategy settings.hosts now (ByWalk zone) old name reply new)
        (λ old name reply new. LooksUpAddresses strategy settings.hosts later (ByWalk zone) old name reply new)
        (λ old past new next name reply answer x y.
        strategy-agree (λ old kind reply new. WithHosts settings.hosts now (ByWalk zone) old (question name kind) reply new)
        (λ old kind reply new. WithHosts settings.hosts later (ByWalk zone) old (question name kind) reply new)
        (λ old past new next kind reply answer u v. with-hosts-agree settings.hosts (question name kind) old past reply answer new next u v)
        old past reply answer new next strategy x y)
        no_addresses names old past h.0 k.0 new next h.1 k.1)
        h.2 k.2

    looks-up-name-agree : (finally : Option RData) (name : Result DomainName ParseError) → LooksUpName settings now (ByWalk zone) finally name old reply new
        → LooksUpName settings later (ByWalk zone) finally name past answer next → Agree reply answer
    looks-up-name-agree finally (Err error) h k = inr (inr (ap reply_value (h.0 ∙ sym k.0)))
    looks-up-name-agree finally (Ok name) h k = looks-up-ip-agree settings.options.ip_strategy finally (names_for settings name) h k

    answers-host-agree : (tried : Bool) (address : Option IpAddr) (name : Result DomainName ParseError)
        → AnswersHost settings now (ByWalk zone) tried address name old reply new
        → AnswersHost settings later (ByWalk zone) tried address name past answer next → Agree reply answer
    answers-host-agree tried None name h k = looks-up-name-agree None name h k
    answers-host-agree false (Some address) name h k =
        known-agree (literal (owner_of name) address now) (literal (owner_of name) address later) reply answer refl (inl h.0) (inl k.0)
    answers-host-agree true (Some address) name h k = looks-up-name-agree (Some (address_data address)) name h k

    pub looks-up-host-agree : (address : Option IpAddr) (name : Result DomainName ParseError)
        → LooksUpHost settings now (ByWalk zone) address name old reply new
        → LooksUpHost settings later (ByWalk zone) address name past answer next → Agree reply answer
    looks-up-host-agree address name h k =
        memory-agree (AnswersHost settings now (ByWalk zone) (is_tried_as_name settings name) address name old reply new)
        (AnswersHost settings later (ByWalk zone) (is_tried_as_name settings name) address name past answer next) old past reply answer new next
        (answers-host-agree (is_tried_as_name settings name) address name) h k
