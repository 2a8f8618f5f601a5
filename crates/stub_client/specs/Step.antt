-- What a client does with the outcome of a question (RFC 1034 section 5.3.3, RFC 2308 section 2).
use Rattle.std.specs.Prelude.{◌==◌, ◌&&◌, ◌||◌, ◌++◌, if◌then◌else◌, is_some, not, nat_lt, min, map, Bool, true, false, List, [], ◌∷◌, ℕ, Option, Some, None, Ok, Err}
use Rattle.std.specs.List.{filter, list_any}
use Rattle.dns_wire.specs.codes.RecordType.{type_number}
use Rattle.dns_wire.specs.codes.DNSClass.{class_number}
use Rattle.dns_wire.specs.declared.codes.dns_class.DNSClass.TheVariants.{IN}
use Rattle.dns_wire.specs.declared.codes.record_type.RecordType.TheVariants as types
use Rattle.dns_names.specs.Compare.{same_name}
use Rattle.dns_names.specs.Name.{DomainName}
use Rattle.dns_data.specs.declared.rdata.RData.{RData}
use Rattle.dns_data.specs.declared.rdata.RData.TheVariants as of
use Rattle.dns_records.specs.Record.{Record}
use Rattle.dns_messages.specs.Message.{all_records, stripped}
use Rattle.dns_messages.specs.Response.{has_type, is_empty, negative_ttl, soa_in}
use Rattle.dns_messages.specs.declared.message.Message.{Message}
use Rattle.dns_messages.specs.declared.query.Query.{Query}
use Rattle.stub_lookup.specs.Error.{no_records}
use Rattle.stub_lookup.specs.Lookup.{max_ttl}
use Rattle.stub_lookup.specs.Outcome.{as_soa, outcome}
use Rattle.stub_lookup.specs.declared.error.DnsError.TheVariants as dns
use Rattle.stub_lookup.specs.declared.error.NetError.TheVariants.{Dns}
use Rattle.stub_lookup.specs.declared.error.NoRecords.{NoRecords}
use Rattle.stub_client.specs.Handle.{Outcome}
use Rattle.stub_client.specs.declared.caching_client.chain.Chain.{Chain}
use Rattle.stub_client.specs.declared.caching_client.step.LookupSettings.{LookupSettings}
use Rattle.stub_client.specs.declared.caching_client.step.Step.{Step}
use Rattle.stub_client.specs.declared.caching_client.step.Step.TheVariants.{Gives, Misses, Stops, Follows}

-- ---- aliases (RFC 1034 section 3.6.2)

-- where the data of a record leads from a name: that of an alias of this name to its target, and that of an SRV record of any
-- owner to its target (RFC 2782)
abbrev pub next_name : DomainName → Record → RData → Option DomainName
next_name name r (of.CNAME alias) = if same_name r.name name then Some alias.0 else None
next_name name r (of.SRV service) = Some service.target
next_name name r other = None

-- where aliases lead if the next one has a target, or none: its TTL bounds those of the records at the end
abbrev pub extended : Chain → ℕ → Option DomainName → Chain
extended chain ttl None = chain
extended chain ttl (Some target) = record { name = target; ttl = min ttl chain.ttl; is_alias = true }

-- the aliases among answers, in order
abbrev pub chain_over : Chain → List Record → Chain
chain_over chain [] = chain
chain_over chain (r ∷ rs) = chain_over (extended chain r.ttl (next_name chain.name r r.rdata)) rs

-- where no alias leads: to the name of the question, for a day at most
abbrev pub chain_start : Query → Chain
chain_start q = record { name = q.name; ttl = max_ttl; is_alias = false }

-- whether a question asks for aliases themselves, or for all types
abbrev pub asks_for_aliases : Query → Bool
asks_for_aliases q = (type_number q.query_type == 5) || (type_number q.query_type == 255)

-- where the aliases among the answers of a message lead from the name of a question; one that asks for aliases follows none
abbrev pub chain_of : Query → Message → Chain
chain_of q m = if asks_for_aliases q then chain_start q else chain_over (chain_start q) m.answers

-- ---- found records

-- whether a record has the type that is asked for, or any type is
abbrev pub asks_for : Query → Record → Bool
asks_for q r = (type_number q.query_type == 255) || has_type q.query_type r

-- whether a record has the class of a question, by its number
abbrev pub has_class : Query → Record → Bool
has_class q r = class_number r.dns_class == class_number q.query_class

-- whether a record is at the end of a chain, or at the name that is asked for
abbrev pub is_at_either : DomainName → Query → Record → Bool
is_at_either name q r = same_name r.name name || same_name r.name q.name

-- whether a record, of any section, is found
abbrev pub is_found : Query → DomainName → Record → Bool
is_found q name r = has_class q r && (asks_for q r && is_at_either name q r)

-- the records of all sections that answer a question, at its name or at the end of the aliases
abbrev pub found : Query → Chain → Message → List Record
found q chain m = filter (is_found q chain.name) (all_records m)

-- Whether what was found is returned: something was found, and the aliases of the message do not lead on from kept ones.
abbrev pub is_given : Query → Chain → List Record → Message → Bool
is_given q chain kept m = not (is_empty (found q chain m)) && (not chain.is_alias || is_empty kept)

-- ---- answers

-- whether a record was found at the end of the aliases
abbrev pub is_end_found : Query → Chain → Message → Bool
is_end_found q chain m = list_any (λ r. same_name r.name chain.name) (found q chain m)

-- whether the answers are selected: after kept aliases, and where aliases are left out
abbrev pub is_selected : LookupSettings → Query → Chain → List Record → Message → Bool
is_selected settings q chain kept m =
    not (is_empty kept)
    || (chain.is_alias && (is_end_found q chain m && not settings.preserve_intermediates))

-- whether a record is an alias that is kept
abbrev pub is_kept_alias : LookupSettings → Query → Record → Bool
is_kept_alias settings q r = settings.preserve_intermediates && (has_class q r && has_type types.CNAME r)

-- a record with a TTL of at most that of the aliases that lead to it
abbrev pub lowered : ℕ → Record → Record
lowered most r = record r { ttl = min r.ttl most }

-- the kept aliases, followed by the records that are found and the aliases to keep
abbrev pub selected_answers : LookupSettings → Query → Chain → List Record → Message → List Record
selected_answers settings q chain kept m =
    kept ++ map (lowered chain.ttl) (filter (λ r. is_found q chain.name r || is_kept_alias settings q r) (all_records m))

-- the answers of the message that is returned: those of the message as it came, or selected ones
abbrev pub given_answers : LookupSettings → Query → Chain → List Record → Message → List Record
given_answers settings q chain kept m =
    if is_selected settings q chain kept m then selected_answers settings q chain kept m else m.answers

-- the question itself where a message has none
abbrev pub questions_or : Query → List Query → List Query
questions_or q [] = q ∷ []
questions_or q (p ∷ ps) = p ∷ ps

-- a message with the question, if it has none
abbrev pub with_question : Query → Message → Message
with_question q m = record m { queries = questions_or q m.queries }

-- the message that is returned, without records of DNSSEC that are not wanted
abbrev pub given_message : LookupSettings → Query → Chain → List Record → Message → Message
given_message settings q chain kept m =
    stripped settings.dnssec_ok (record (with_question q m) { answers = given_answers settings q chain kept m })

-- ---- following aliases

-- the aliases that are kept for the next question
abbrev pub kept_aliases : LookupSettings → Query → Chain → List Record → Message → List Record
kept_aliases settings q chain kept m =
    kept ++ map (lowered chain.ttl) (filter (is_kept_alias settings q) (all_records m))

-- the question for the end of the aliases, with the type of the question, in the class of the Internet
abbrev pub next_question : Query → Chain → Query
next_question q chain = record { name = chain.name; query_type = q.query_type; query_class = IN }

-- how many times a lookup goes on to the question for the end of aliases
abbrev pub max_depth : ℕ
max_depth = 7

-- ---- the step

-- the negative answer of a reply that has no record for the question
abbrev pub nothing_found : Query → Message → NoRecords
nothing_found q m = record (no_records q m.metadata.response_code) {
  soa = as_soa (soa_in m.authorities);
  negative_ttl = negative_ttl (soa_in m.authorities);
}

-- whether aliases end in nothing: no record is found, and the reply has the SOA record of a negative answer (RFC 2308 section
-- 2.1)
abbrev pub is_negative_end : Query → Chain → Message → Bool
is_negative_end q chain m = chain.is_alias && (is_empty (found q chain m) && is_some (soa_in m.authorities))

-- a reply that is no error: what was found, or aliases that end in nothing, or an alias to follow, or nothing
abbrev pub step_along : LookupSettings → Query → Chain → List Record → ℕ → Message → Step
step_along settings q chain kept depth m =
    if is_given q chain kept m then Gives (given_message settings q chain kept m)
    else if is_negative_end q chain m then Misses (nothing_found q m)
    else if chain.is_alias && nat_lt depth max_depth
    then Follows (next_question q chain) (kept_aliases settings q chain kept m)
    else Stops (Dns (dns.NoRecordsFound (nothing_found q m)))

-- a negative answer is stored, any other error is not
abbrev pub step_on : LookupSettings → Query → List Record → ℕ → Outcome → Step
step_on settings q kept depth (Ok response) = step_along settings q (chain_of q response.message) kept depth response.message
step_on settings q kept depth (Err (Dns (dns.NoRecordsFound answer))) = Misses answer
step_on settings q kept depth (Err error) = Stops error

-- what a reply means, or the error of the handle
abbrev pub meaning : Outcome → Outcome
meaning (Ok response) = outcome response
meaning (Err error) = Err error

-- the step that the outcome of a question leads to
abbrev pub step_of : LookupSettings → Query → List Record → ℕ → Outcome → Step
step_of settings q kept depth out = step_on settings q kept depth (meaning out)
