-- Lookups of one name after another (RFC 1123 section 6.1.4.3).
use Rattle.std.specs.Prelude.{◌≡◌, ◌⊎◌, not, Bool, true, false, List, [], ◌∷◌, ℕ, Option, Some, None, Ok, Err, codes}
use Rattle.dns_wire.specs.declared.codes.record_type.RecordType.{RecordType}
use Rattle.dns_names.specs.Name.{DomainName}
use Rattle.dns_messages.specs.Response.{is_empty}
use Rattle.dns_messages.specs.declared.query.Query.{Query}
use Rattle.stub_lookup.specs.Lookup.{LookupContent}
use Rattle.stub_lookup.specs.declared.error.NetError.TheVariants as errors
use Rattle.stub_hosts.specs.Hosts.{HostsContent, question, static_lookup}
use Rattle.stub_client.specs.Handle.{IsMessage}
use Rattle.stub_client.specs.Looks.{Reply, out_of_memory}

-- ---- lookups over states

-- Lookups of questions, of names or of types, over states of what is asked: from a state one of them may have this reply and lead
-- to that state.
abbrev pub Lookups : Type 0 → Type 0 → Type 1
Lookups S Asked = S → Asked → Reply → S → Type 0

-- ---- which reply ends a lookup

-- a reply that ends a lookup over names: it has answers, or memory ran out
abbrev pub is_final : Reply → Bool
is_final (Ok lookup) = not (is_empty lookup.message.answers)
is_final (Err errors.Memory) = true
is_final (Err error) = false

-- ---- names

-- Either this is the last reply, or the next one of the rest.
abbrev pub Continues : {S : Type 0} → Bool → (Reply → S → Type 0) → Reply → S → Reply → S → Type 0
Continues true rest last old reply new = (reply ≡ last) × (new ≡ old)
Continues false rest last old reply new = rest reply new

-- The names in order, after a last reply: the first reply that ends the lookup, or else that of the last name.
abbrev pub Attempts : {S : Type 0} → Lookups S DomainName → Reply → S → List DomainName → Reply → S → Type 0
Attempts tries last old [] reply new = (reply ≡ last) × (new ≡ old)
Attempts {S} tries last old (name ∷ names) reply new =
    Continues (is_final last)
    (λ reply new. (next : Reply) × (mid : S) × tries old name next mid × Attempts tries next mid names reply new)
    last old reply new

-- The names in order; if there are none, an error with this text.
abbrev pub AttemptsAll : {S : Type 0} → List ℕ → Lookups S DomainName → S → List DomainName → Reply → S → Type 0
AttemptsAll text tries old names reply new =
    (none : Reply) × IsMessage text none × Attempts tries none old names reply new

-- the text of the error of a lookup of no names
abbrev pub no_names : List ℕ
no_names = codes "can not lookup for no names"

-- ---- hosts

-- want of memory may end it before anything is asked
abbrev pub UnlessMemory : {S : Type 0} → Type 0 → S → Reply → S → Type 0
UnlessMemory looks old reply new = ((reply ≡ out_of_memory) × (new ≡ old)) ⊎ looks

-- What the hosts have for a question, or else what is asked. Want of memory may end it before: the question is copied, or its name
-- is completed for the hosts.
abbrev pub Unless : {S : Type 0} → Option LookupContent → (Reply → S → Type 0) → S → Reply → S → Type 0
Unless None asks old reply new = UnlessMemory (asks reply new) old reply new
Unless (Some lookup) asks old reply new = ((reply ≡ Ok lookup) ⊎ (reply ≡ out_of_memory)) × (new ≡ old)

-- what the hosts have for a question, or else what asking it leads to
abbrev pub WithHosts : {S : Type 0} → HostsContent → ℕ → Lookups S Query → S → Query → Reply → S → Type 0
WithHosts hosts now asks old q reply new = Unless (static_lookup hosts q now) (λ reply new. asks old q reply new) old reply new

-- The names in order. The hosts are asked for the first one alone.
abbrev pub AttemptsWithHosts : {S : Type 0} → HostsContent → ℕ → Lookups S Query → RecordType → S → List DomainName → Reply → S
    → Type 0
AttemptsWithHosts hosts now asks kind old [] reply new = IsMessage no_names reply × (new ≡ old)
AttemptsWithHosts {S} hosts now asks kind old (name ∷ names) reply new =
    (first : Reply) × (mid : S) × WithHosts hosts now asks old (question name kind) first mid
    × Attempts (λ old name reply new. asks old (question name kind) reply new) first mid names reply new
