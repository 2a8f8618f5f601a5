-- Equality of lookups is an equivalence.
use Rattle.std.specs.Cmp.{IsEquivalence, and_equiv, on_equiv}
use Rattle.std.specs.Cmp.Lexicographic.{lists_equiv, options_equiv}
use Rattle.std.proofs.lemmas.Cmp.{nat_eq_equiv}
use Rattle.dns_data.specs.contracts.rdata.RDataEq.TheImpl.Laws as rdata
use Rattle.dns_data.specs.internal.Equality.{same_option-equivalence}
use Rattle.dns_data.specs.rdata.{same_data}
use Rattle.dns_records.specs.Record.{same_record}
use Rattle.dns_records.specs.internal.Equality.{same_record-equivalence}
use Rattle.dns_messages.specs.contracts.edns.EdnsFlagsEq.TheImpl.Laws as flags
use Rattle.dns_messages.specs.contracts.header.MetadataEq.TheImpl.Laws as metadata
use Rattle.dns_messages.specs.contracts.query.QueryEq.TheImpl.Laws as question
use Rattle.dns_messages.specs.declared.edns.Edns.{Edns}
use Rattle.dns_messages.specs.declared.message.Message.{Message}
use Rattle.stub_lookup.specs.Lookup.{LookupContent}
use Rattle.stub_lookup.specs.LookupEquality.{same_edns, same_section, same_sections, same_extensions, same_message, same_lookup}

same_record_of_data-equivalence : IsEquivalence (same_record same_data)
same_record_of_data-equivalence = same_record-equivalence rdata.laws-law

pub same_edns-equivalence : IsEquivalence same_edns
same_edns-equivalence =
    and_equiv (on_equiv (λ (e : Edns). e.rcode_high) nat_eq_equiv)
    (and_equiv (on_equiv (λ (e : Edns). e.version) nat_eq_equiv)
    (and_equiv (on_equiv (λ (e : Edns). e.flags) flags.laws-law)
    (and_equiv (on_equiv (λ (e : Edns). e.max_payload) nat_eq_equiv)
    (on_equiv (λ (e : Edns). e.options) (lists_equiv same_option-equivalence)))))

pub same_section-equivalence : IsEquivalence same_section
same_section-equivalence = lists_equiv same_record_of_data-equivalence

pub same_sections-equivalence : IsEquivalence same_sections
same_sections-equivalence =
    and_equiv (on_equiv (λ (m : Message). m.answers) same_section-equivalence)
    (and_equiv (on_equiv (λ (m : Message). m.authorities) same_section-equivalence)
    (on_equiv (λ (m : Message). m.additionals) same_section-equivalence))

pub same_extensions-equivalence : IsEquivalence same_extensions
same_extensions-equivalence =
    and_equiv (on_equiv (λ (m : Message). m.edns) (options_equiv same_edns-equivalence))
    (on_equiv (λ (m : Message). m.signature) (options_equiv same_record_of_data-equivalence))

pub same_message-equivalence : IsEquivalence same_message
same_message-equivalence =
    and_equiv (on_equiv (λ (m : Message). m.metadata) metadata.laws-law)
    (and_equiv (on_equiv (λ (m : Message). m.queries) (lists_equiv question.laws-law))
    (and_equiv same_sections-equivalence same_extensions-equivalence))

pub same_lookup-equivalence : IsEquivalence same_lookup
same_lookup-equivalence =
    and_equiv (on_equiv (λ (l : LookupContent). l.message) same_message-equivalence)
    (on_equiv (λ (l : LookupContent). l.valid_until) nat_eq_equiv)
