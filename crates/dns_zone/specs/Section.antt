-- Sections of an answer, whose records are borrowed from a zone.
use Rattle.std.specs.Prelude.{◌≡◌, ◌++◌, drop, List, [], ◌∷◌, map, Option, Some, None}
use Rattle.dns_names.specs.Name.{DomainName}
use Rattle.dns_records.specs.Record.{Record}
use Rattle.dns_records.specs.declared.row.Row.{Row}
use Rattle.dns_zone.specs.declared.zone.answer.Answer.{Answer}
use Rattle.dns_zone.specs.declared.zone.answer.AnswerRef.{AnswerRef}
use Rattle.dns_zone.specs.declared.zone.section.RowRef.{RowRef}
use Rattle.dns_zone.specs.declared.zone.row_refs.RowRefs.{RowRefs}
use Rattle.dns_zone.specs.declared.zone.section.Section.{Section}
use Rattle.dns_zone.specs.declared.zone.section.SectionTtl.{SectionTtl}
use Rattle.dns_zone.specs.declared.zone.section.SectionTtl.TheVariants as ttls
use Rattle.dns_zone.specs.Rows.{ZoneContent, row_of, rows_at, rows_of}
use Rattle.dns_wire.specs.declared.codes.record_type.RecordType.{RecordType}
use Rattle.dns_wire.specs.declared.codes.record_type.RecordType.TheVariants as types
use Rattle.dns_zone.specs.declared.zone.chain.Link.{Link}
use Rattle.dns_zone.specs.declared.zone.chain.Link.TheVariants.{End, Alias}
use Rattle.dns_zone.specs.Answer.{answer_by, authority_row, direct_answer, record_of}

-- the record that a borrowed row is
abbrev pub borrowed_record : RowRef → Record
borrowed_record r = record_of r.owner.now (record { ttl = r.ttl; rdata = r.rdata.now })

-- a row with the TTL that it has in a section
abbrev pub row_with : SectionTtl → Row → Row
row_with ttls.Unchanged row = row
row_with ttls.Negative row = authority_row row

-- the records of aliases, up to the first place without one
abbrev pub alias_records : List (Option RowRef) → List Record
alias_records [] = []
alias_records (None ∷ aliases) = []
alias_records (Some alias ∷ aliases) = borrowed_record alias ∷ alias_records aliases

-- the records of a set, with an owner and a TTL
abbrev pub set_records : DomainName → SectionTtl → List Record → List Record
set_records owner ttl records = map (λ row. record_of owner (row_with ttl row)) (rows_of records)

-- the records of a section: aliases, and then those of a set
abbrev pub section_records : Section → List Record
section_records s = alias_records s.aliases ++ set_records s.owner.now s.ttl s.records.now

-- the records that an iterator has not returned
abbrev pub remaining_records : RowRefs → List Record
remaining_records rows = alias_records (drop rows.index rows.aliases.now) ++ set_records rows.owner.now rows.ttl rows.records.now

-- a record is the first of those that an iterator had left, or there was none
abbrev pub IsNext : List Record → Option RowRef → List Record → Type 0
IsNext old None new = old ≡ []
IsNext old (Some row) new = old ≡ borrowed_record row ∷ new

-- the answer whose records are those of borrowed sections
abbrev pub borrowed_answer : AnswerRef → Answer
borrowed_answer a = record {
  code = a.code;
  answers = section_records a.answers;
  authorities = section_records a.authorities;
}

-- what a zone has at a name of an alias chain: it decides the answer there
abbrev pub IsLinkAt : ZoneContent → DomainName → RecordType → Link → Type 0
IsLinkAt zone owner t (End records) = (on_alias : Row → Answer)
    → answer_by zone owner (rows_at zone.rows owner.labels t) (rows_at zone.rows owner.labels types.CNAME) on_alias
    ≡ direct_answer zone owner (rows_of records.now)
IsLinkAt zone owner t (Alias alias) = (on_alias : Row → Answer)
    → answer_by zone owner (rows_at zone.rows owner.labels t) (rows_at zone.rows owner.labels types.CNAME) on_alias
    ≡ on_alias (row_of alias.now)
