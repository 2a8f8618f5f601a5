-- Equality of lookups, and of messages.
use Rattle.std.specs.Prelude.{Bool, List, nat_eq}
use Rattle.std.specs.Cmp.Lexicographic.{pointwise}
use Rattle.std.specs.Option.{option_eq}
use Rattle.std.specs.Ordering.{on, eq_of_both}
use Rattle.dns_data.specs.Field.{same_option}
use Rattle.dns_data.specs.rdata.{same_data}
use Rattle.dns_records.specs.Record.{Record, same_record}
use Rattle.dns_messages.specs.contracts.edns.EdnsFlagsPartialEq.TheImpl as flags
use Rattle.dns_messages.specs.contracts.header.MetadataPartialEq.TheImpl as metadata
use Rattle.dns_messages.specs.contracts.query.QueryPartialEq.TheImpl as question
use Rattle.dns_messages.specs.declared.edns.Edns.{Edns}
use Rattle.dns_messages.specs.declared.message.Message.{Message}
use Rattle.stub_lookup.specs.Lookup.{LookupContent}

-- OPT records are equal if all their fields are (RFC 6891 section 6.1).
abbrev pub same_edns : Edns → Edns → Bool
same_edns =
    eq_of_both (on (λ e. e.rcode_high) nat_eq)
    (eq_of_both (on (λ e. e.version) nat_eq)
    (eq_of_both (on (λ e. e.flags) flags.eq-value.it)
    (eq_of_both (on (λ e. e.max_payload) nat_eq) (on (λ e. e.options) (pointwise same_option)))))

-- Sections are equal if their records are, in order. The TTLs of records are not compared (RFC 2136 section 1.1.1).
abbrev pub same_section : List Record → List Record → Bool
same_section = pointwise (same_record same_data)

-- the same records in each section
abbrev pub same_sections : Message → Message → Bool
same_sections =
    eq_of_both (on (λ m. m.answers) same_section)
    (eq_of_both (on (λ m. m.authorities) same_section) (on (λ m. m.additionals) same_section))

-- either no OPT record and no signature, or equal ones
abbrev pub same_extensions : Message → Message → Bool
same_extensions =
    eq_of_both (on (λ m. m.edns) (option_eq same_edns)) (on (λ m. m.signature) (option_eq (same_record same_data)))

-- Messages are equal if their headers, their questions, the records of their sections, their OPT records and their
-- signatures are (RFC 1035 section 4.1).
abbrev pub same_message : Message → Message → Bool
same_message =
    eq_of_both (on (λ m. m.metadata) metadata.eq-value.it)
    (eq_of_both (on (λ m. m.queries) (pointwise question.eq-value.it)) (eq_of_both same_sections same_extensions))

-- Lookups are equal if their messages and their deadlines are.
abbrev pub same_lookup : LookupContent → LookupContent → Bool
same_lookup = eq_of_both (on (λ l. l.message) same_message) (on (λ l. l.valid_until) nat_eq)
