-- The additional section: addresses of the hosts that the other sections name (RFC 1034 section 4.3.2 step 6).
use Rattle.std.specs.Prelude.{◌==◌, ◌&&◌, ◌||◌, ◌++◌, map, if◌then◌else◌, Bool, List, [], ◌∷◌, Option, Some, None}
use Rattle.std.specs.List.{list_any}
use Rattle.dns_wire.specs.codes.RecordType.{type_number}
use Rattle.dns_wire.specs.declared.codes.record_type.RecordType.{RecordType}
use Rattle.dns_wire.specs.declared.codes.record_type.RecordType.TheVariants as types
use Rattle.dns_names.specs.Name.{DomainName}
use Rattle.dns_names.specs.Compare.{same_labels}
use Rattle.dns_data.specs.declared.rdata.RData.{RData}
use Rattle.dns_data.specs.declared.rdata.RData.TheVariants as of
use Rattle.dns_data.specs.rdata.{data_type}
use Rattle.dns_records.specs.Record.{Record}
use Rattle.dns_records.specs.declared.row.Row.{Row}
use Rattle.dns_zone.specs.Rows.{ZoneContent, rows_at}
use Rattle.dns_zone.specs.Answer.{record_of}
use Rattle.dns_authority.specs.steps.Barrier.{barrier}
use Rattle.dns_authority.specs.declared.answer.AuthorityAnswer.{AuthorityAnswer}
use Rattle.dns_authority.specs.declared.additional.HostKind.{HostKind}
use Rattle.dns_authority.specs.declared.additional.HostKind.TheVariants as kinds
use Rattle.dns_authority.specs.Step.{closest_zone}

-- the host that data names: that of an NS, an MX or an SRV record
abbrev pub host_of : RData → Option DomainName
host_of (of.NS ns) = Some ns.0
host_of (of.MX mx) = Some mx.exchange
host_of (of.SRV srv) = Some srv.target
host_of other = None

-- whether a record has this name, ignoring ASCII case, and type
abbrev pub is_of_set : DomainName → RecordType → Record → Bool
is_of_set name t r = same_labels name.labels r.name.labels && (type_number (data_type r.rdata) == type_number t)

-- whether a section has records of a name and a type
abbrev pub has_set : List Record → DomainName → RecordType → Bool
has_set records name t = list_any (is_of_set name t) records

-- records and a further set, unless these or the answers have it
abbrev pub with_set : List Record → List Record → DomainName → RecordType → List Row → List Record
with_set answers records name t rows =
    if has_set answers name t || has_set records name t then records
    else records ++ map (record_of name) rows

-- records and the addresses of a host
abbrev pub with_host : (DomainName → RecordType → List Row) → List Record → List Record → DomainName → List Record
with_host rows_for answers records host =
    with_set answers (with_set answers records host types.A (rows_for host types.A))
    host types.AAAA (rows_for host types.AAAA)

-- the same, if there is a host
abbrev pub with_host_of : (DomainName → RecordType → List Row) → List Record → List Record → Option DomainName → List Record
with_host_of rows_for answers records None = records
with_host_of rows_for answers records (Some host) = with_host rows_for answers records host

-- records and the addresses of the hosts that other records name
abbrev pub with_hosts : (DomainName → RecordType → List Row) → List Record → List Record → List Record → List Record
with_hosts rows_for answers records [] = records
with_hosts rows_for answers records (r ∷ naming) =
    with_hosts rows_for answers (with_host_of rows_for answers records (host_of r.rdata)) naming

-- the rows of a zone at a name, whether or not they are below a zone cut
abbrev pub rows_in : Option ZoneContent → DomainName → RecordType → List Row
rows_in None name t = []
rows_in (Some zone) name t = rows_at zone.rows name.labels t

-- glue: the rows of a host of a referral (RFC 1034 section 4.2.1)
abbrev pub glue_rows : List ZoneContent → DomainName → RecordType → List Row
glue_rows zones host t = rows_in (closest_zone zones host.labels) host t

-- the rows of a zone at a name, unless a barrier is on the way
abbrev pub rows_without : Option DomainName → ZoneContent → DomainName → RecordType → List Row
rows_without None zone name t = rows_at zone.rows name.labels t
rows_without (Some at) zone name t = []

-- the rows at a name for which a zone is the authority
abbrev pub own_rows : Option ZoneContent → DomainName → RecordType → List Row
own_rows None name t = []
own_rows (Some zone) name t = rows_without (barrier zone t name) zone name t

-- the rows of a host of the answer section: those for which the closest zone is the authority
abbrev pub host_rows : List ZoneContent → DomainName → RecordType → List Row
host_rows zones host t = own_rows (closest_zone zones host.labels) host t

-- the rows of a host by why they are added
abbrev pub rows_by : HostKind → List ZoneContent → DomainName → RecordType → List Row
rows_by kinds.Glue zones host t = glue_rows zones host t
rows_by kinds.Answer zones host t = host_rows zones host t

-- The additional section of an answer section and an authority section: glue, and then the addresses of the hosts that the answers
-- name. Each set is there once, and none that is among the answers.
abbrev pub additionals_of : List ZoneContent → List Record → List Record → List Record
additionals_of zones answers authorities =
    with_hosts (rows_by kinds.Answer zones) answers (with_hosts (rows_by kinds.Glue zones) answers [] authorities) answers

-- an answer with its additional section
abbrev pub with_additionals : List ZoneContent → AuthorityAnswer → AuthorityAnswer
with_additionals zones a = record a { additionals = additionals_of zones a.answers a.authorities }
