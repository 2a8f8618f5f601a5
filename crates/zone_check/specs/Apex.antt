-- The origin of a zone file, also of one with faults.
use Rattle.std.specs.Prelude.{◌/◌, if◌then◌else◌, Bool, true, false, List, [], ◌∷◌, Option, Some, None, option_map}
use Rattle.std.specs.List.{list_any}
use Rattle.std.specs.Option.{option_map_or}
use Rattle.dns_names.specs.Build.{trim_to}
use Rattle.dns_names.specs.Compare.{same_labels}
use Rattle.dns_names.specs.Labels.{num_labels}
use Rattle.dns_names.specs.Name.{DomainName}
use Rattle.dns_data.specs.declared.rdata.RData.{RData}
use Rattle.dns_data.specs.declared.rdata.RData.TheVariants as of
use Rattle.zone_lines.specs.declared.record_line.EntryLine.{EntryLine}
use Rattle.zone_lines.specs.declared.record_line.EntryLine.TheVariants as entry
use Rattle.zone_lines.specs.declared.record_line.RecordLine.{RecordLine}
use Rattle.zone_lines.specs.warnings.Names.{doubled_origin}

-- whether data is an SOA
abbrev pub is_start_data : RData → Bool
is_start_data (of.SOA soa) = true
is_start_data other = false

-- whether a record is an SOA record
abbrev pub is_start_record : RecordLine → Bool
is_start_record r = is_start_data r.rdata

-- the record of an entry, if it is an SOA record
abbrev pub start_of : EntryLine → Option RecordLine
start_of (entry.Record r) = if is_start_record r then Some r else None
start_of (entry.Fault f) = None

-- the first SOA record among entries
abbrev pub first_start : List EntryLine → Option RecordLine
first_start [] = None
first_start (e ∷ entries) = elim (start_of e) [ Some r ↦ Some r | None ↦ first_start entries ]

-- whether an entry is an SOA record of an owner, up to ASCII case
abbrev pub is_start_at : DomainName → EntryLine → Bool
is_start_at owner e = option_map_or (λ r. same_labels owner.labels r.owner.labels) (start_of e) false

-- whether some entry is an SOA record of an owner
abbrev pub has_start : DomainName → List EntryLine → Bool
has_start owner entries = list_any (is_start_at owner) entries

-- whether an entry is an SOA record, or has a fault and may be meant as one
abbrev pub may_start : EntryLine → Bool
may_start (entry.Record r) = is_start_record r
may_start (entry.Fault f) = f.may_be_start

-- whether some entry is or may be
abbrev pub some_starts : List EntryLine → Bool
some_starts entries = list_any may_start entries

-- ---- the origin

-- whether a name is an origin twice, as if it lacked the dot at its end
abbrev pub is_doubled : DomainName → DomainName → Bool
is_doubled origin name = option_map_or (λ d. same_labels d.labels name.labels) (doubled_origin origin) false

-- the last half of a name
abbrev pub half_of : DomainName → DomainName
half_of name = trim_to name (num_labels name.labels / 2)

-- the origin by the owner of an SOA record: this owner, or its last half if it is that twice
abbrev pub apex_by : DomainName → DomainName
apex_by owner = if is_doubled (half_of owner) owner then half_of owner else owner

-- the origin by an entry, if that has a fault and is meant as an SOA record
abbrev pub meant_by : EntryLine → Option DomainName
meant_by (entry.Record r) = None
meant_by (entry.Fault f) = f.apex

-- the origin by the first such entry
abbrev pub first_meant : List EntryLine → Option DomainName
first_meant [] = None
first_meant (e ∷ entries) = elim (meant_by e) [ Some apex ↦ Some apex | None ↦ first_meant entries ]

-- the owner of the first SOA record, or else the origin by the first entry that is meant as one
abbrev pub start_owner : List EntryLine → Option DomainName
start_owner entries = elim (first_start entries) [ Some r ↦ Some r.owner | None ↦ first_meant entries ]

-- the origin that was given, or else that of the first SOA record, or of the first entry that is meant as one
abbrev pub apex_of : Option DomainName → List EntryLine → Option DomainName
apex_of (Some origin) entries = Some (record origin { is_fqdn = true })
apex_of None entries = option_map apex_by (start_owner entries)
