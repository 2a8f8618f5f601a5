-- Hosts: the lookups of names, those of IPv4 addresses apart from those of IPv6, and what they answer to questions.
use Rattle.std.specs.Prelude.{ℕ, ◌+◌, ◌==◌, Bool, true, false, List, [], ◌∷◌, map, length, if◌then◌else◌, Option, Some, None, option_map, option_and_then}
use Rattle.std.specs.List.{filter, find, list_any}
use Rattle.std.specs.Str.{bytes_eq}
use Rattle.std.specs.Net.Addr.{ipv4_octets, ipv6_segments}
use Rattle.std.specs.declared.cmp.Ordering.TheVariants.{Less, Equal, Greater}
use Rattle.std.specs.declared.net.ip_addr.IpAddr.{IpAddr}
use Rattle.std.specs.declared.net.ip_addr.IpAddr.TheVariants.{V4, V6}
use Rattle.dns_wire.specs.codes.RecordType.{type_of, type_number}
use Rattle.dns_wire.specs.declared.codes.record_type.RecordType.{RecordType}
use Rattle.dns_wire.specs.declared.codes.record_type.RecordType.TheVariants as types
use Rattle.dns_wire.specs.declared.codes.dns_class.DNSClass.TheVariants.{IN}
use Rattle.dns_names.specs.Name.{DomainName}
use Rattle.dns_names.specs.Compare.{same_labels, name_cmp}
use Rattle.dns_names.specs.Reverse.{arpa_prefix, addr_of}
use Rattle.dns_names.specs.declared.reverse.AddrPrefix.{AddrPrefix}
use Rattle.dns_data.specs.declared.rdata.RData.{RData}
use Rattle.dns_data.specs.declared.rdata.RData.TheVariants as of
use Rattle.dns_data.specs.rdata.{data_addr}
use Rattle.dns_records.specs.Record.{Record}
use Rattle.dns_messages.specs.declared.query.Query.{Query}
use Rattle.stub_lookup.specs.Lookup.{LookupContent, lookup_of, joined, max_ttl, record_for}
use Rattle.stub_hosts.specs.HostsFile.{Host}
use Rattle.stub_hosts.specs.declared.hosts.table.HostEntry.{HostEntry}

-- the entries of A and of AAAA, each in the order of their names
pub record HostsContent : Type 0 where
  pub a : List HostEntry
  pub aaaa : List HostEntry

-- the name, taken as fully qualified
abbrev pub qualified : DomainName → DomainName
qualified name = record name { is_fqdn = true }

-- ---- insertion

-- a question of class IN
abbrev pub question : DomainName → RecordType → Query
question name record_type = record { name = name; query_type = record_type; query_class = IN }

-- a lookup without records, to which those of a new name are joined
abbrev pub fresh : DomainName → RecordType → ℕ → LookupContent
fresh name record_type now = lookup_of (question name record_type) [] (now + max_ttl)

-- the entry of a name
abbrev pub entry : DomainName → LookupContent → HostEntry
entry name lookup = record { name = name; lookup = lookup }

-- The entries with a lookup for a name. It is joined to the lookup that the name has; a new name gets an entry in the order of
-- names.
abbrev pub with_entry : DomainName → LookupContent → LookupContent → List HostEntry → List HostEntry
with_entry name new lookup [] = entry name (joined new lookup) ∷ []
with_entry name new lookup (e ∷ es) = elim (name_cmp name e.name) [
  | Less ↦ entry name (joined new lookup) ∷ e ∷ es
  | Equal ↦ entry e.name (joined e.lookup lookup) ∷ es
  | Greater ↦ e ∷ with_entry name new lookup es
]

-- the entries of a type with a lookup for a name
abbrev pub with_lookup_of : RecordType → DomainName → LookupContent → ℕ → List HostEntry → List HostEntry
with_lookup_of record_type name lookup now entries =
    with_entry (qualified name) (fresh (qualified name) record_type now) lookup entries

-- The hosts with a lookup for a name and a type, A or AAAA.
abbrev pub with_lookup : HostsContent → DomainName → RecordType → LookupContent → ℕ → HostsContent
with_lookup hosts name types.AAAA lookup now = record hosts { aaaa = with_lookup_of types.AAAA name lookup now hosts.aaaa }
with_lookup hosts name other lookup now = record hosts { a = with_lookup_of types.A name lookup now hosts.a }

-- ---- hosts of a file

-- the type of the records that have an address (RFC 1035 section 3.4.1, RFC 3596 section 2.1)
abbrev pub address_type : IpAddr → RecordType
address_type (V4 a) = types.A
address_type (V6 a) = types.AAAA

-- the data of a record that has an address
abbrev pub address_data : IpAddr → RData
address_data (V4 a) = of.A (record { 0 = a })
address_data (V6 a) = of.AAAA (record { 0 = a })

-- the lookup of a host: one record
abbrev pub host_lookup : ℕ → Host → LookupContent
host_lookup now h =
    let asked = question h.name (address_type h.address) in
    lookup_of asked (record_for asked (address_data h.address) ∷ []) (now + max_ttl)

-- the hosts with one of a file
abbrev pub with_host : ℕ → HostsContent → Host → HostsContent
with_host now hosts h = with_lookup hosts h.name (address_type h.address) (host_lookup now h) now

-- the hosts with those of a file, inserted one after another
abbrev pub with_hosts : ℕ → HostsContent → List Host → HostsContent
with_hosts now hosts [] = hosts
with_hosts now hosts (h ∷ more) = with_hosts now (with_host now hosts h) more

-- ---- lookups

-- the lookup of a name, ignoring ASCII case
abbrev pub lookup_at : DomainName → List HostEntry → Option LookupContent
lookup_at name entries = option_map (λ (e : HostEntry). e.lookup) (find (λ e. same_labels e.name.labels name.labels) entries)

-- a lookup that has answers
abbrev pub answered : LookupContent → Option LookupContent
answered lookup = if length lookup.message.answers == 0 then None else Some lookup

-- whether addresses are of one family and have the same octets or segments
abbrev pub same_address : IpAddr → IpAddr → Bool
same_address (V4 x) (V4 y) = bytes_eq (ipv4_octets x) (ipv4_octets y)
same_address (V6 x) (V6 y) = bytes_eq (ipv6_segments x) (ipv6_segments y)
same_address x y = false

-- whether data has the address, if it has one
abbrev pub is_address : IpAddr → Option IpAddr → Bool
is_address address None = false
is_address address (Some other) = same_address other address

-- whether a record has the address
abbrev pub is_address_of : IpAddr → Record → Bool
is_address_of address r = is_address address (data_addr r.rdata)

-- whether an answer has the address
abbrev pub has_address : IpAddr → HostEntry → Bool
has_address address e = list_any (is_address_of address) e.lookup.message.answers

-- the entries of the family of an address
abbrev pub entries_of : IpAddr → HostsContent → List HostEntry
entries_of (V4 a) hosts = hosts.a
entries_of (V6 a) hosts = hosts.aaaa

-- a PTR record from an owner to the name of an entry, with a TTL of a day (RFC 1035 section 3.3.12)
abbrev pub pointer : DomainName → HostEntry → Record
pointer owner e = record { name = owner; dns_class = IN; ttl = max_ttl; rdata = of.PTR (record { 0 = e.name }) }

-- the pointers to the names of an address, in the order of names
abbrev pub pointers : DomainName → IpAddr → List HostEntry → List Record
pointers owner address entries = map (pointer owner) (filter (has_address address) entries)

-- what a reverse name points to: the names of the address in its prefix
abbrev pub pointer_lookup : Option AddrPrefix → HostsContent → Query → ℕ → Option LookupContent
pointer_lookup None hosts query now = None
pointer_lookup (Some prefix) hosts query now =
    answered (lookup_of query (pointers (qualified query.name) (addr_of prefix) (entries_of (addr_of prefix) hosts))
    (now + max_ttl))

-- what hosts answer to a question, by its type
abbrev pub lookup_of_type : RecordType → HostsContent → Query → ℕ → Option LookupContent
lookup_of_type types.A hosts query now = option_and_then answered (lookup_at query.name hosts.a)
lookup_of_type types.AAAA hosts query now = option_and_then answered (lookup_at query.name hosts.aaaa)
lookup_of_type types.PTR hosts query now = pointer_lookup (arpa_prefix (qualified query.name)) hosts query now
lookup_of_type other hosts query now = None

-- What hosts answer to a question of any class: for A and AAAA what was inserted for the name, for PTR the names of the address.
abbrev pub static_lookup : HostsContent → Query → ℕ → Option LookupContent
static_lookup hosts query now = lookup_of_type (type_of (type_number query.query_type)) hosts query now
