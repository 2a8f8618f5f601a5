-- What ends a lookup above its name: zone cuts (RFC 1034 section 4.2) and DNAME records (RFC 6672 section 3.2).
use Rattle.std.specs.Prelude.{◌&&◌, ◌||◌, ◌==◌, ◌-◌, not, nat_lt, map, length, if◌then◌else◌, Bool, List, ℕ, Option, Some, None}
use Rattle.std.specs.List.{find, range_with_len}
use Rattle.std.specs.Option.{option_or}
use Rattle.dns_wire.specs.codes.RecordType.{type_number}
use Rattle.dns_wire.specs.declared.codes.record_type.RecordType.{RecordType}
use Rattle.dns_wire.specs.declared.codes.record_type.RecordType.TheVariants as types
use Rattle.dns_names.specs.Name.{DomainName}
use Rattle.dns_names.specs.Build.{trim_to}
use Rattle.dns_names.specs.Labels.{begins_with_star}
use Rattle.dns_zone.specs.Rows.{Rows, ZoneContent, rows_at}

-- whether a name has rows of a type
abbrev pub has_rows : Rows → DomainName → RecordType → Bool
has_rows rows name t = not (length (rows_at rows name.labels t) == 0)

-- whether a type is DS, whose records are above a zone cut (RFC 4035 section 3.1.4.1)
abbrev pub is_ds : RecordType → Bool
is_ds t = type_number t == 43

-- A zone cut: a name below the origin with NS rows (RFC 1034 section 4.2). A wildcard is none (RFC 4592 section 4.2).
abbrev pub is_cut : ZoneContent → DomainName → Bool
is_cut zone name =
    nat_lt (length zone.origin.labels) (length name.labels)
    && (not (begins_with_star name.labels) && has_rows zone.rows name types.NS)

-- A name below which the rows of a zone do not count: a zone cut, or the owner of a DNAME record (RFC 6672 section 2.4).
abbrev pub is_barrier : ZoneContent → DomainName → Bool
is_barrier zone name = is_cut zone name || has_rows zone.rows name types.DNAME

-- the names above a name, from that with so many labels down
abbrev pub names_above : DomainName → ℕ → List DomainName
names_above name first = map (trim_to name) (range_with_len first (length name.labels - first))

-- the first barrier above a name, from the origin down
abbrev pub barrier_above : ZoneContent → DomainName → Option DomainName
barrier_above zone name = find (is_barrier zone) (names_above name (length zone.origin.labels))

-- the name itself if it is a zone cut for a type
abbrev pub cut_at : ZoneContent → RecordType → DomainName → Option DomainName
cut_at zone t name = if is_cut zone name && not (is_ds t) then Some name else None

-- The barrier on the way from the origin down to a name: the first above the name, or else the name itself if it is a zone cut.
-- The records of type DS at a zone cut are those of the zone above it (RFC 4035 section 3.1.4.1).
abbrev pub barrier : ZoneContent → RecordType → DomainName → Option DomainName
barrier zone t name = option_or (barrier_above zone name) (cut_at zone t name)
