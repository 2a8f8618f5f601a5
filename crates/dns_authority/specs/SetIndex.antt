-- The record sets of an answer, as an index has them.
use Rattle.std.specs.Prelude.{◌≡◌, ◌||◌, Bool, false, List}
use Rattle.std.specs.BTreeSet.{contains}
use Rattle.dns_wire.specs.declared.codes.record_type.RecordType.{RecordType}
use Rattle.dns_names.specs.Name.{DomainName}
use Rattle.dns_records.specs.Record.{Record}
use Rattle.dns_updates.specs.Keys.{owner_code, place_cmp, type_code}
use Rattle.dns_authority.specs.declared.set_index.SetIndex.{SetIndex}
use Rattle.dns_authority.specs.declared.section.Section.{Section}
use Rattle.dns_authority.specs.Additional.{has_set}

-- whether an index has the set of a name and a type
abbrev pub is_indexed : SetIndex → DomainName → RecordType → Bool
is_indexed index name t = contains place_cmp index.keys (owner_code name.labels, type_code t)

-- an index has no set
abbrev pub HasNoSet : SetIndex → Type 0
HasNoSet index = (name : DomainName) (t : RecordType) → is_indexed index name t ≡ false

-- an index has exactly the sets of two sections
abbrev pub IsIndexOf : SetIndex → List Record → List Record → Type 0
IsIndexOf index answers records =
    (name : DomainName) (t : RecordType) → is_indexed index name t ≡ (has_set answers name t || has_set records name t)

-- Where the index of a section has its sets and those of the answer section, the section becomes another one, of these records, and
-- with such an index.
abbrev pub Grows : Section → (List Record → List Record → List Record) → Section → Type 0
Grows old records_of new = (answers : List Record) → IsIndexOf old.index answers old.records
    → (new.records ≡ records_of answers old.records) × IsIndexOf new.index answers new.records
