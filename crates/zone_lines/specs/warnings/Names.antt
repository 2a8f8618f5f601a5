-- The names of records, those without their last dot, and those that are addresses.
use Rattle.std.specs.Prelude.{◌==◌, ◌&&◌, ◌||◌, ◌-◌, nat_lt, not, ℕ, Bool, false, length, List, [], ◌∷◌, take, find, is_some, if◌then◌else◌, Option, Some, None}
use Rattle.std.specs.List.{list_all, list_any}
use Rattle.dns_wire.specs.codes.Decimal.{decimal_up_to}
use Rattle.dns_names.specs.Build.{append_name}
use Rattle.dns_names.specs.Compare.{at_or_below}
use Rattle.dns_names.specs.Labels.{num_labels}
use Rattle.dns_names.specs.Name.{DomainName}
use Rattle.dns_data.specs.declared.rdata.RData.{RData}
use Rattle.dns_data.specs.declared.rdata.RData.TheVariants as of
use Rattle.dns_zone_file.specs.Fields.{if_ok}
use Rattle.zone_lines.specs.declared.record_line.RecordLine.{RecordLine}

-- the names in data
abbrev pub names_of : RData → List DomainName
names_of (of.CNAME cname) = cname.0 ∷ []
names_of (of.NS ns) = ns.0 ∷ []
names_of (of.PTR ptr) = ptr.0 ∷ []
names_of (of.MX mx) = mx.exchange ∷ []
names_of (of.SRV srv) = srv.target ∷ []
names_of (of.SOA soa) = soa.mname ∷ soa.rname ∷ []
names_of other = []

-- the target of an NS or MX record (RFC 2181 section 10.3)
abbrev pub server_of : RData → Option DomainName
server_of (of.NS ns) = Some ns.0
server_of (of.MX mx) = Some mx.exchange
server_of other = None

-- whether some name in data has one label
abbrev pub has_top_name : RData → Bool
has_top_name rdata = list_any (λ name. length name.labels == 1) (names_of rdata)

-- ---- names without their last dot

-- the origin with its labels once more, if that is a name and has a label
abbrev pub doubled_origin : DomainName → Option DomainName
doubled_origin origin = if num_labels origin.labels == 0 then None else if_ok (append_name origin origin)

-- whether a name is at or below another
abbrev pub lies_below : DomainName → DomainName → Bool
lies_below name other = at_or_below name.labels other.labels

-- the first name of a record that is at or below another
abbrev pub name_below : DomainName → RecordLine → Option DomainName
name_below name r = find (lies_below name) (r.owner ∷ names_of r.rdata)

-- whether some name of a record is at or below another
abbrev pub name_lies_below : Option DomainName → RecordLine → Bool
name_lies_below None r = false
name_lies_below (Some name) r = is_some (name_below name r)

-- ---- addresses in the places of names

-- whether a label is a number up to 255
abbrev pub is_octet : List ℕ → Bool
is_octet label = is_some (decimal_up_to 255 label)

-- whether the first four labels of a name are those of an IPv4 address
abbrev pub begins_with_address : List (List ℕ) → Bool
begins_with_address labels = not (nat_lt (length labels) 4) && list_all is_octet (take 4 labels)

-- whether a name is such an address, as `192.0.2.1.`, or one that an origin completed, as `192.0.2.1`
abbrev pub is_address_name : DomainName → DomainName → Bool
is_address_name origin name =
    let others = length name.labels - 4 in
    begins_with_address name.labels && (others == 0 || others == length origin.labels && at_or_below origin.labels name.labels)

-- whether some name in data is an address
abbrev pub has_address_name : DomainName → RData → Bool
has_address_name origin rdata = list_any (is_address_name origin) (names_of rdata)
