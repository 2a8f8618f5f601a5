-- The first records of each owner with a property.
use Rattle.std.specs.Prelude.{◌≡◌, ◌==◌, ◌&&◌, ◌||◌, not, Bool, true, false, ℕ, List, Option, Some, None, position, if◌then◌else◌}
use Rattle.std.specs.Option.{option_map_or}
use Rattle.std.specs.HashMap as hash
use Rattle.std.specs.HashMap.{HashMap}
use Rattle.dns_wire.specs.codes.RecordType.{type_number}
use Rattle.dns_names.specs.Compare.{same_name}
use Rattle.dns_names.specs.Name.{DomainName}
use Rattle.dns_records.specs.internal.DataIndex.{first_of}
use Rattle.dns_data.specs.declared.rdata.RData.{RData}
use Rattle.dns_data.specs.declared.rdata.RData.TheVariants as of
use Rattle.zone_lines.specs.declared.record_line.EntryLine.{EntryLine}
use Rattle.zone_lines.specs.declared.record_line.EntryLine.TheVariants as entry
use Rattle.zone_lines.specs.declared.record_line.RecordLine.{RecordLine}
use Rattle.zone_lines.specs.warnings.Text.{is_dmarc, is_spf}
use Rattle.zone_lines.specs.declared.warnings.places.Places.{Places}
use Rattle.zone_lines.specs.declared.warnings.places.Trait.{Trait}
use Rattle.zone_lines.specs.declared.warnings.places.Trait.TheVariants as property

-- whether data is a CNAME
abbrev pub is_alias : RData → Bool
is_alias (of.CNAME cname) = true
is_alias other = false

-- Whether data may be beside an alias: in a signed zone RRSIG, 46, and NSEC, 47, are, and KEY, 25, may be (RFC 4035 section 2.5).
abbrev pub joins_alias : RData → Bool
joins_alias (of.Unknown code bytes) =
    let number = type_number code in number == 25 || number == 46 || number == 47
joins_alias other = false

-- whether data is an address
abbrev pub is_address : RData → Bool
is_address (of.A a) = true
is_address (of.AAAA aaaa) = true
is_address other = false

-- whether data names a name server
abbrev pub is_name_server : RData → Bool
is_name_server (of.NS ns) = true
is_name_server other = false

-- whether a record has a property
abbrev pub has_trait : Trait → RecordLine → Bool
has_trait property.NotBesideAlias r = not (is_alias r.rdata) && not (joins_alias r.rdata)
has_trait property.Address r = is_address r.rdata
has_trait property.NameServer r = is_name_server r.rdata
has_trait property.Target r = is_name_server r.rdata
has_trait property.Spf r = is_spf r.rdata
has_trait property.Dmarc r = is_dmarc r

-- the name server that data names
abbrev pub name_server_of : RData → Option DomainName
name_server_of (of.NS ns) = Some ns.0
name_server_of other = None

-- the name by which an entry's record is found, if that has a property: its owner, or the name server that it names
abbrev pub name_with : Trait → EntryLine → Option DomainName
name_with property.Target (entry.Record r) = name_server_of r.rdata
name_with t (entry.Record r) = if has_trait t r then Some r.owner else None
name_with t (entry.Fault f) = None

-- whether an entry is found by a name, up to ASCII case, and has a property
abbrev pub is_of : Trait → DomainName → EntryLine → Bool
is_of t owner e = option_map_or (λ other. same_name other owner) (name_with t e) false

-- the place of the first record of an owner, or for a name server, with a property, among the entries of a file
abbrev pub first_place : Trait → List EntryLine → DomainName → Option ℕ
first_place t entries owner = position (is_of t owner) entries

-- ---- the code's

-- the place that is kept for an owner
abbrev pub place_of : Places → DomainName → Option ℕ
place_of places owner = hash.get same_name places.first owner

-- the places are those of the first records with a property
abbrev pub ArePlaces : Places → Trait → List EntryLine → Type 0
ArePlaces places t entries = (owner : DomainName) → place_of places owner ≡ first_place t entries owner

-- an owner that had no place has the one that was noted, and all else is as before
abbrev pub HasNoted : {S : Type 0} → HashMap DomainName ℕ S → DomainName → ℕ → HashMap DomainName ℕ S → Type 0
HasNoted old owner place new =
    (other : DomainName) → hash.get same_name new other ≡ first_of (hash.get same_name old other) (same_name owner other) place
