-- The text of records, as on lines of a zone file (RFC 1035 section 5.1).
use Rattle.std.specs.Prelude.{ℕ, List, [], ◌∷◌, ◌++◌, codes}
use Rattle.std.specs.Fmt.{decimal}
use Rattle.dns_wire.specs.codes.CodeText.{type_text}
use Rattle.dns_wire.specs.codes.RecordType.{type_number, type_of}
use Rattle.dns_wire.specs.declared.codes.record_type.RecordType.{RecordType}
use Rattle.dns_names.specs.Name.{DomainName}
use Rattle.dns_names.specs.Print.{text_of_name}
use Rattle.dns_fields.specs.bitmaps.TypeWord.{word_of_type}
use Rattle.dns_formats.specs.Field.{fields_of}
use Rattle.dns_formats.specs.Print.{format_text}
use Rattle.dns_zone_file.specs.declared.types.Types.{Types}
use Rattle.dns_zone_file.specs.declared.types.Types.TheVariants.{Nine, All}
use Rattle.dns_data.specs.declared.rdata.RData.{RData}
use Rattle.dns_data.specs.declared.rdata.RData.TheVariants as of
use Rattle.dns_data.specs.rdata.{data_type, data_text}
use Rattle.dns_records.specs.Record.{Record}

-- a type by the name that its number is read as, or among all types by its name in the registry, if it has one
abbrev pub type_as_read : Types → RecordType → List ℕ
type_as_read Nine kind = type_text (type_of (type_number kind))
type_as_read All kind = word_of_type (type_number kind)

-- data: among all types that of a type without values of its own is printed by its format
abbrev pub data_as_read : Types → RData → List ℕ
data_as_read All (of.Unknown kind bytes) = format_text (fields_of (type_number kind)) bytes
data_as_read types d = data_text d

-- an owner without labels is a dot, qualified or not
abbrev pub owner_of_labels : List (List ℕ) → List ℕ → List ℕ
owner_of_labels [] text = codes "."
owner_of_labels (label ∷ labels) text = text

-- an owner
abbrev pub owner_text : DomainName → List ℕ
owner_text name = owner_of_labels name.labels (text_of_name name)

-- a record: owner, TTL, class, type and data
abbrev pub record_text : Types → Record → List ℕ
record_text types r =
    owner_text r.name ++ (codes " " ++ (decimal r.ttl ++ (codes " IN " ++ (type_as_read types (data_type r.rdata)
    ++ (codes " " ++ data_as_read types r.rdata)))))
