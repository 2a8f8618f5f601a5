-- What a question leads to in a reply (RFC 1034 section 3.6.2, RFC 2181 section 10.1).
use Rattle.std.specs.Prelude.{◌≡◌, ◌≢◌, ◌==◌, ◌&&◌, ◌||◌, ◌⊎◌, ◌++◌, true, if◌then◌else◌, zero, suc, Bool, ℕ, List, [], ◌∷◌, Option, Some, None, Ok, Err}
use Rattle.std.specs.List.{filter, Contains}
use Rattle.dns_wire.specs.codes.RecordType.{type_number}
use Rattle.dns_wire.specs.declared.codes.record_type.RecordType.TheVariants as types
use Rattle.dns_names.specs.Name.{DomainName}
use Rattle.dns_names.specs.Compare.{at_or_below, same_name}
use Rattle.dns_data.specs.declared.rdata.RData.{RData}
use Rattle.dns_data.specs.declared.rdata.RData.TheVariants as of
use Rattle.dns_records.specs.Record.{Record}
use Rattle.dns_messages.specs.Response.{has_type}
use Rattle.dns_messages.specs.declared.message.Message.{Message}
use Rattle.dns_messages.specs.declared.query.Query.{Query}
use Rattle.dns_messages.specs.declared.response.DnsResponse.{DnsResponse}
use Rattle.stub_client.specs.Handle.{Behavior, Outcome}
use Rattle.stub_client.specs.Step.{asks_for_aliases, has_class}
use Rattle.stub_client.specs.declared.request.DnsRequest.{DnsRequest}
use Rattle.stub_lookup.specs.declared.error.NetError.TheVariants as errors

-- ---- the aliases

-- a record is at a name, and has the class of a question
abbrev pub is_at : Query → DomainName → Record → Bool
is_at q name r = has_class q r && same_name r.name name

-- the target of an alias
abbrev pub target_of : RData → Option DomainName
target_of (of.CNAME alias) = Some alias.0
target_of other = None

-- the target of a record that is an alias at a name
abbrev pub alias_to : Query → DomainName → Record → Option DomainName
alias_to q name r = if is_at q name r then target_of r.rdata else None

-- the first alias at a name, and its target
abbrev pub alias_in : Query → DomainName → List Record → Option (Record × DomainName)
alias_in q name [] = None
alias_in q name (r ∷ rs) = elim (alias_to q name r) [ Some target ↦ Some (r, target) | None ↦ alias_in q name rs ]

-- the aliases among records that lead from a name, at most so many
unfoldable pub aliases_from : ℕ → Query → List Record → DomainName → List Record
aliases_from zero q rs name = []
aliases_from (suc n) q rs name = elim (alias_in q name rs) [ Some found ↦ found.0 ∷ aliases_from n q rs found.1 | None ↦ [] ]

-- the name to which these lead
unfoldable pub end_from : ℕ → Query → List Record → DomainName → DomainName
end_from zero q rs name = name
end_from (suc n) q rs name = elim (alias_in q name rs) [ Some found ↦ end_from n q rs found.1 | None ↦ name ]

-- how many aliases a question follows at most: one for aliases, or for all types, follows none
abbrev pub max_aliases : Query → ℕ
max_aliases q = if asks_for_aliases q then 0 else 16

-- the aliases that lead from the name of a question
abbrev pub aliases_of : Query → List Record → List Record
aliases_of q rs = aliases_from (max_aliases q) q rs q.name

-- the name to which they lead
abbrev pub end_of : Query → List Record → DomainName
end_of q rs = end_from (max_aliases q) q rs q.name

-- ---- what remains

-- a record has the type of a question, or all types are asked for
abbrev pub has_asked_type : Query → Record → Bool
has_asked_type q r = (type_number q.query_type == 255) || has_type q.query_type r

-- a record is at a name, and has the class and the type of a question
abbrev pub is_asked : Query → DomainName → Record → Bool
is_asked q name r = is_at q name r && has_asked_type q r

-- the aliases that lead from the name of a question, and the records at their end that it asks for
abbrev pub scrubbed_answers : Query → List Record → List Record
scrubbed_answers q rs = aliases_of q rs ++ filter (is_asked q (end_of q rs)) rs

-- an SOA record at or above a name
abbrev pub is_soa_above : DomainName → Record → Bool
is_soa_above name r = has_type types.SOA r && at_or_below r.name.labels name.labels

-- what remains of a message
abbrev pub scrubbed_message : Query → Message → Message
scrubbed_message q m = record m {
  answers = scrubbed_answers q m.answers;
  authorities = filter (is_soa_above (end_of q m.answers)) m.authorities;
  additionals = [];
}

-- what remains of a response, whose bytes stay
abbrev pub scrubbed_response : Query → DnsResponse → DnsResponse
scrubbed_response q r = record r { message = scrubbed_message q r.message }

-- ---- the handle

-- what remains of an outcome: of a response what its question leads to, if there is memory for it
abbrev pub IsScrubbed : Query → Outcome → Outcome → Type 0
IsScrubbed q (Ok response) outcome = (outcome ≡ Ok (scrubbed_response q response)) ⊎ (outcome ≡ Err errors.Memory)
IsScrubbed q (Err error) outcome = outcome ≡ Err error

-- A handle is asked, and of its outcome remains what the question leads to. There may be no memory for a copy of the question: then it
-- is not asked.
abbrev pub GivesScrubbed : {H : Type 0} → Behavior H → H → DnsRequest → ℕ → List Query → Outcome → H → Type 0
GivesScrubbed gives old request now (q ∷ []) outcome new =
    ((inner : Outcome) × gives old request now inner new × IsScrubbed q inner outcome)
    ⊎ ((outcome ≡ Err errors.Memory) × (new ≡ old))
GivesScrubbed gives old request now other outcome new = gives old request now outcome new

-- one request to such a handle
abbrev pub Gives : {H : Type 0} → Behavior H → H → DnsRequest → ℕ → Outcome → H → Type 0
Gives gives old request now outcome new = GivesScrubbed gives old request now request.message.queries outcome new

-- ---- what a question leads to

-- A name to which a question leads: its own, or the target of an alias among the records at such a name.
pub data IsLedTo (q : Query) (rs : List Record) : DomainName → Type 0 where
  own_name : IsLedTo q rs q.name
  along_alias : {name target : DomainName} (r : Record) → IsLedTo q rs name → Contains rs r → alias_to q name r ≡ Some target
      → IsLedTo q rs target

-- A record that a question leads to, by the records that are given: at such a name, an alias or of the type that is asked for.
pub record IsLedRecord (q : Query) (rs : List Record) (r : Record) : Type 0 where
  pub name : DomainName
  pub led : IsLedTo q rs name
  pub at_name : is_at q name r ≡ true
  pub kind : (target_of r.rdata ≢ None) ⊎ (has_asked_type q r ≡ true)
