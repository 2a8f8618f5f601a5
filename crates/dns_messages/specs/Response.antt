-- What a response says: whether it has an answer, and how long a negative answer may be cached (RFC 2308).
use Rattle.std.specs.Prelude.{◌==◌, ◌&&◌, ◌||◌, not, Bool, true, false, List, [], ◌∷◌, ℕ, min, Option, Some, None}
use Rattle.std.specs.List.{find, list_any}
use Rattle.dns_wire.specs.codes.RecordType.{type_number}
use Rattle.dns_wire.specs.declared.codes.record_type.RecordType.{RecordType}
use Rattle.dns_wire.specs.declared.codes.record_type.RecordType.TheVariants as types
use Rattle.dns_names.specs.Compare.{same_labels, at_or_below}
use Rattle.dns_data.specs.declared.rdata.RData.{RData}
use Rattle.dns_data.specs.declared.rdata.RData.TheVariants as of
use Rattle.dns_data.specs.rdata.{data_type}
use Rattle.dns_records.specs.Record.{Record}
use Rattle.dns_messages.specs.declared.query.Query.{Query}
use Rattle.dns_messages.specs.declared.message.Message.{Message}

-- ---- negative answers

-- whether data is that of an SOA record
abbrev pub is_soa_data : RData → Bool
is_soa_data (of.SOA soa) = true
is_soa_data other = false

-- whether a record is an SOA record
abbrev pub is_soa : Record → Bool
is_soa r = is_soa_data r.rdata

-- the SOA record that a negative answer has in its authority section (RFC 2308 section 3)
abbrev pub soa_in : List Record → Option Record
soa_in authorities = find is_soa authorities

-- the lesser of the TTL of an SOA record and its minimum (RFC 2308 section 5)
abbrev pub negative_ttl_of : ℕ → RData → Option ℕ
negative_ttl_of ttl (of.SOA soa) = Some (min ttl soa.minimum)
negative_ttl_of ttl other = None

-- how long a negative answer with this SOA record may be cached, in seconds; not at all without one (RFC 2308 section 5)
abbrev pub negative_ttl : Option Record → Option ℕ
negative_ttl None = None
negative_ttl (Some r) = negative_ttl_of r.ttl r.rdata

-- ---- answers

-- whether a record of the answer, authority or additional section passes a test
abbrev pub in_sections : (Record → Bool) → Message → Bool
in_sections test m =
    list_any test m.answers || (list_any test m.authorities || list_any test m.additionals)

-- the record is at the name that a question asks for
abbrev pub is_at : Query → Record → Bool
is_at q r = same_labels r.name.labels q.name.labels

-- whether a record is of a type, by the numbers of both
abbrev pub has_type : RecordType → Record → Bool
has_type kind r = type_number (data_type r.rdata) == type_number kind

-- an SOA record whose zone has the name
abbrev pub is_soa_above : Query → Record → Bool
is_soa_above q r = has_type types.SOA r && at_or_below r.name.labels q.name.labels

-- whether a list has no items
abbrev pub is_empty : {X : Type 0} → List X → Bool
is_empty [] = true
is_empty (x ∷ xs) = false

-- whether there is an answer, or a record of the type at the name of the question in another section
abbrev pub has_answer_of_type : RecordType → Query → Message → Bool
has_answer_of_type kind q m =
    not (is_empty m.answers) || in_sections (λ r. has_type kind r && is_at q r) m

-- What answers a question: any record at the name if it asks for all types; an SOA record of a zone that has the name, if
-- it asks for that; or else any answer, or a record of the type at the name in another section.
abbrev pub is_answer_of_type : RecordType → Query → Message → Bool
is_answer_of_type types.ANY q m = in_sections (is_at q) m
is_answer_of_type types.SOA q m = in_sections (is_soa_above q) m
is_answer_of_type kind q m = has_answer_of_type kind q m

-- whether a message answers a question
abbrev pub answers_question : Message → Query → Bool
answers_question m q = is_answer_of_type q.query_type q m

-- whether a message answers one of its questions
abbrev pub contains_answer : Message → Bool
contains_answer m = list_any (answers_question m) m.queries
