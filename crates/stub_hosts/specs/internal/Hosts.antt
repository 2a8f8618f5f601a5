-- The tables of hosts: entries by the keys of their names, and names by the keys of their addresses.
use Rattle.std.specs.Prelude.{◌≡◌, ℕ, Bool, true, cond, List, [], ◌∷◌, map, ⊤}
use Rattle.std.specs.BTreeMap.{is_at}
use Rattle.std.specs.BTreeMap.Range.{entries_between}
use Rattle.std.specs.List.{filter}
use Rattle.std.specs.List.Sorted.{IsStrictlySortedBy}
use Rattle.std.specs.Map.{values_of, remove_entry}
use Rattle.std.specs.Ordering.{match_ordering}
use Rattle.std.specs.declared.net.ip_addr.IpAddr.{IpAddr}
use Rattle.std.specs.declared.ops.Bound.TheVariants.{Included, Excluded}
use Rattle.dns_wire.specs.declared.codes.dns_class.DNSClass.TheVariants.{IN}
use Rattle.dns_data.specs.declared.rdata.RData.TheVariants as of
use Rattle.dns_names.specs.Name.{DomainName}
use Rattle.dns_names.specs.Compare.{name_cmp}
use Rattle.dns_records.specs.Record.{Record}
use Rattle.stub_lookup.specs.Lookup.{max_ttl}
use Rattle.stub_hosts.specs.Hosts.{has_address}
use Rattle.stub_hosts.specs.declared.hosts.table.HostEntry.{HostEntry}
use Rattle.stub_hosts.specs.internal.HostKeys.{key_cmp, labels_key, address_key, pointer_key}

-- ---- entries by name

-- each entry has the key of its name, which is fully qualified
abbrev pub AreKeyed : List (List ℕ × HostEntry) → Type 0
AreKeyed [] = ⊤
AreKeyed (p ∷ ps) = (p.0 ≡ labels_key p.1.name.labels) × (p.1.name.is_fqdn ≡ true) × AreKeyed ps

-- the names of entries
abbrev pub names_of : List HostEntry → List DomainName
names_of entries = map (λ (e : HostEntry). e.name) entries

-- the entries are in the order of their names
abbrev pub AreInOrder : List HostEntry → Type 0
AreInOrder entries = IsStrictlySortedBy name_cmp (names_of entries)

-- the name that an entry of a name has: that of the entry with an equal name, or the name itself
abbrev pub own_name : DomainName → List HostEntry → DomainName
own_name name [] = name
own_name name (e ∷ es) = match_ordering (name_cmp name e.name) name e.name (own_name name es)

-- ---- names by address

-- each key is that of an address and the labels of the name, which is fully qualified
abbrev pub ArePointers : List (List ℕ × DomainName) → Type 0
ArePointers [] = ⊤
ArePointers (p ∷ ps) = ((address : IpAddr) × (p.0 ≡ pointer_key address p.1.labels)) × (p.1.is_fqdn ≡ true) × ArePointers ps

-- the names at an address
abbrev pub names_at : IpAddr → List (List ℕ × DomainName) → List DomainName
names_at address ps =
    values_of (entries_between key_cmp (Included (address_key address (0 ∷ []))) (Excluded (address_key address (1 ∷ []))) ps)

-- a PTR record from an owner to a name, with a TTL of a day
abbrev pub pointer_to : DomainName → DomainName → Record
pointer_to owner name = record { name = owner; dns_class = IN; ttl = max_ttl; rdata = of.PTR (record { 0 = name }) }

-- the names in order with another one, unless an equal name is among them
abbrev pub with_name : DomainName → List DomainName → List DomainName
with_name name [] = name ∷ []
with_name name (n ∷ ns) = match_ordering (name_cmp name n) (name ∷ n ∷ ns) (n ∷ ns) (n ∷ with_name name ns)

-- a name is added at the addresses for which there is a test
abbrev pub AddsName : DomainName → (IpAddr → Bool) → List (List ℕ × DomainName) → List (List ℕ × DomainName) → Type 0
AddsName name test old new =
    (address : IpAddr)
    → names_at address new ≡ cond (test address) (with_name name (names_at address old)) (names_at address old)

-- the pointers without those that have keys, the last of which is removed first
abbrev pub without_keys : List (List ℕ) → List (List ℕ × DomainName) → List (List ℕ × DomainName)
without_keys [] ps = ps
without_keys (key ∷ keys) ps = remove_entry (is_at (key_cmp key)) (without_keys keys ps)

-- the names at each address are those of the entries that have it
abbrev pub IsIndexOf : List HostEntry → List (List ℕ × DomainName) → Type 0
IsIndexOf entries ps = (address : IpAddr) → names_at address ps ≡ names_of (filter (has_address address) entries)
