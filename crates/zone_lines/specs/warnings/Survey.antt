-- What is known of a zone as a whole.
use Rattle.std.specs.Prelude.{◌≡◌, ◌==◌, ◌&&◌, not, Bool, true, false, ℕ, List, Option, Some, None}
use Rattle.std.specs.List.{list_any}
use Rattle.dns_names.specs.Compare.{same_labels}
use Rattle.dns_names.specs.Name.{DomainName}
use Rattle.dns_wire.specs.declared.codes.record_type.RecordType.{RecordType}
use Rattle.dns_wire.specs.codes.RecordType.{type_number}
use Rattle.zone_lines.specs.Line.{lines_view}
use Rattle.zone_lines.specs.declared.record_line.EntryLine.{EntryLine}
use Rattle.zone_lines.specs.declared.record_line.EntryLine.TheVariants as entry
use Rattle.zone_lines.specs.warnings.Names.{doubled_origin, has_top_name}
use Rattle.zone_lines.specs.warnings.Places.{ArePlaces, is_name_server}
use Rattle.zone_lines.specs.warnings.Text.{has_directive}
use Rattle.zone_lines.specs.declared.warnings.places.Trait.TheVariants as property
use Rattle.zone_lines.specs.declared.warnings.survey.Survey.{Survey}
use Rattle.zone_lines.specs.declared.warnings.survey.ZoneFacts.{ZoneFacts}

-- what is known of a zone besides its records: its origin, whether that was given, whether it is served plainly, the time, and
-- the lines of each text
pub record Facts : Type 0 where
  pub origin : DomainName
  pub is_given : Bool
  pub is_plain : Bool
  pub now : Option ℕ
  pub texts : List (List (List ℕ))

-- what is known of a zone, as a call finds it
abbrev pub facts_view : ZoneFacts → Facts
facts_view f = record {
  origin = f.origin.now;
  is_given = f.is_given;
  is_plain = f.is_plain;
  now = f.now;
  texts = lines_view f.texts.now;
}

-- whether an entry is a record with a name in its data that the root completed: it has one label, and is written without a dot
abbrev pub has_top_entry : EntryLine → Bool
has_top_entry (entry.Record r) = r.has_dotless_name && has_top_name r.rdata
has_top_entry (entry.Fault f) = false

-- whether the root completed some name in data
abbrev pub names_top : List EntryLine → Bool
names_top entries = list_any has_top_entry entries

-- whether the root completes names, and some name in data was completed so
abbrev pub lacks_origin : Facts → List EntryLine → Bool
lacks_origin f entries = not f.is_given && not (has_directive f.texts) && names_top entries

-- whether a type is that of NS records, if it is known; one that is not may be
abbrev pub may_be_server : Option RecordType → Bool
may_be_server (Some type) = type_number type == 2
may_be_server None = true

-- whether an entry is an NS record of an origin, or has a fault and may be meant as one
abbrev pub may_serve : DomainName → EntryLine → Bool
may_serve origin (entry.Record r) = is_name_server r.rdata && same_labels origin.labels r.owner.labels
may_serve origin (entry.Fault f) = may_be_server f.record_type

-- whether some entry is one, or may be
abbrev pub some_serve : DomainName → List EntryLine → Bool
some_serve origin entries = list_any (may_serve origin) entries

-- Whether a zone has no NS record at its origin (RFC 2181 section 6.1), also none with a fault. One that is served plainly needs none.
abbrev pub lacks_server : Facts → List EntryLine → Bool
lacks_server f entries = not f.is_plain && not (some_serve f.origin entries)

-- a survey of the entries of a zone
pub record Surveys (survey : Survey) (f : Facts) (entries : List EntryLine) : Type 0 where
  pub doubled : survey.doubled ≡ doubled_origin f.origin
  pub without_origin : survey.lacks_origin ≡ lacks_origin f entries
  pub without_server : survey.lacks_server ≡ lacks_server f entries
  pub others : ArePlaces survey.others property.NotBesideAlias entries
  pub addresses : ArePlaces survey.addresses property.Address entries
  pub cuts : ArePlaces survey.cuts property.NameServer entries
  pub servers : ArePlaces survey.servers property.Target entries
  pub spf : ArePlaces survey.spf property.Spf entries
  pub dmarc : ArePlaces survey.dmarc property.Dmarc entries
