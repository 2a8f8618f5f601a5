-- A lookup of a name ends with the reply to a question for an attempted name, or with what the hosts have.
use Rattle.std.proofs.Common.{◌≡◌, ℕ, Bool, true, false, List, [], ◌∷◌, Option, Some, None, Ok, Contains, refl, sym, subst, inl, inr}
use Rattle.std.proofs.lemmas.List.Elements.{Contains-append_right}
use Rattle.dns_wire.specs.declared.codes.record_type.RecordType.{RecordType}
use Rattle.dns_names.specs.Name.{DomainName}
use Rattle.dns_records.specs.Record.{Record}
use Rattle.dns_messages.specs.declared.query.Query.{Query}
use Rattle.stub_lookup.specs.Lookup.{LookupContent}
use Rattle.stub_lookup.specs.declared.error.NetError.{NetError}
use Rattle.stub_lookup.specs.declared.error.NoRecords.{NoRecords}
use Rattle.stub_hosts.specs.Hosts.{question, static_lookup}
use Rattle.stub_client.specs.Looks.{Reply}
use Rattle.stub_core.specs.Attempts.{Attempts, AttemptsWithHosts, Continues, Unless, is_final}
use Rattle.stub_core.specs.Origins.{first_of}
use Rattle.stub_core.specs.Resolver.{LooksUp, known_type, names_for}
use Rattle.stub_core.specs.declared.resolver.settings.Settings.{Settings}
use Rattle.stub_laws.proofs.StandLaws.{contains-head}
use Rattle.stub_laws.specs.answers.Lookups.{ByClaims}
use Rattle.stub_laws.specs.answers.Ends.{NameEnds, by_hosts, by_memory, by_no_name, by_question}

module _ (finds : Query → ℕ → List Record → Type 0) (lacks : Query → ℕ → NoRecords → Type 0) (fails : Query → ℕ → NetError → Type 0) (settings : Settings) (now : ℕ) (kind : RecordType)
    (all : List DomainName) where
  abbrev Ends : Reply → Type 0
  Ends reply = NameEnds finds lacks fails settings now all kind reply

  -- what is asked for a name
  abbrev Asks : Unit {0} → DomainName → Reply → Unit {0} → Type 0
  Asks old name reply new = ByClaims finds lacks fails now old (question name kind) reply new

  continued : (ends : Bool) (rest : Reply → Unit {0} → Type 0) (last : Reply) (old : Unit {0}) (reply : Reply) (new : Unit {0})
      → Continues ends rest last old reply new → (reply ≡ last → Ends reply) → (rest reply new → Ends reply) → Ends reply
  continued true rest last old reply new c f g = f c.0
  continued false rest last old reply new c f g = g c

  attempts-end : (last : Reply) (old : Unit {0}) → Ends last → (names : List DomainName) → ((name : DomainName) → Contains names name → Contains all name)
      → (reply : Reply) (new : Unit {0}) → Attempts Asks last old names reply new → Ends reply
  attempts-end last old h [] among reply new a = subst Ends (sym a.0) h
  attempts-end last old h (name ∷ names) among reply new a =
      continued (is_final last)
      (λ reply new. (next : Reply) × (mid : Unit {0}) × Asks old name next mid × Attempts Asks next mid names reply new)
      last old reply new a (λ same. subst Ends (sym same) h)
      (λ c. attempts-end c.0 c.1 (by_question name (among name (contains-head name names)) c.2) names
      (λ other there. among other (Contains-append_right (name ∷ []) names other there)) reply new c.3)

  first-ends : (name : DomainName) → Contains all name → Contains (first_of all) name → (known : Option LookupContent)
      → static_lookup settings.hosts (question name kind) now ≡ known → (reply : Reply) (old new : Unit {0})
      → Unless known (λ reply new. Asks old name reply new) old reply new → Ends reply
  first-ends name there first None is reply old new (inl memory) = by_memory memory.0
  first-ends name there first None is reply old new (inr h) = by_question name there h
  first-ends name there first (Some lookup) is reply old new h = elim h.0 [
    | inl found ↦ by_hosts name lookup first is found
    | inr memory ↦ by_memory memory
  ]

names-end : (finds : Query → ℕ → List Record → Type 0) (lacks : Query → ℕ → NoRecords → Type 0) (fails : Query → ℕ → NetError → Type 0) (settings : Settings) (now : ℕ) (kind : RecordType)
    (names : List DomainName) (reply : Reply) (old new : Unit {0})
    → AttemptsWithHosts settings.hosts now (ByClaims finds lacks fails now) kind old names reply new
    → NameEnds finds lacks fails settings now names kind reply
names-end finds lacks fails settings now kind [] reply old new h = by_no_name h.0
names-end finds lacks fails settings now kind (name ∷ names) reply old new h =
    attempts-end finds lacks fails settings now kind (name ∷ names) h.0 h.1
    (first-ends finds lacks fails settings now kind (name ∷ names) name (contains-head name names) (contains-head name [])
    (static_lookup settings.hosts (question name kind) now) refl h.0 old h.1 h.2)
    names (λ other there. Contains-append_right (name ∷ []) names other there) reply new h.3

pub name-ends : (finds : Query → ℕ → List Record → Type 0) (lacks : Query → ℕ → NoRecords → Type 0) (fails : Query → ℕ → NetError → Type 0) (settings : Settings) (now : ℕ)
    (name : DomainName) (kind : RecordType) (reply : Reply) → LooksUp settings now (ByClaims finds lacks fails now) (Ok name) kind tt reply tt
    → NameEnds finds lacks fails settings now (names_for settings name) (known_type kind) reply
name-ends finds lacks fails settings now name kind reply (inl memory) = by_memory memory.0
name-ends finds lacks fails settings now name kind reply (inr h) =
    names-end finds lacks fails settings now (known_type kind) (names_for settings name) reply tt tt h
