-- Lookups of addresses, by a strategy (RFC 1035 section 3.4.1, RFC 3596 section 2.1).
use Rattle.std.specs.Prelude.{◌≡◌, ◌+◌, ◌⊎◌, true, false, List, [], ◌∷◌, ℕ, Bool, Option, Some, None, Ok, Err, codes}
use Rattle.dns_wire.specs.declared.codes.dns_class.DNSClass.TheVariants.{IN}
use Rattle.dns_wire.specs.declared.codes.record_type.RecordType.{RecordType}
use Rattle.dns_wire.specs.declared.codes.record_type.RecordType.TheVariants as types
use Rattle.dns_names.specs.Name.{DomainName}
use Rattle.dns_data.specs.declared.rdata.RData.{RData}
use Rattle.dns_records.specs.Record.{Record}
use Rattle.dns_messages.specs.declared.query.Query.{Query}
use Rattle.stub_config.specs.declared.strategy.LookupIpStrategy.{LookupIpStrategy}
use Rattle.stub_config.specs.declared.strategy.LookupIpStrategy.TheVariants.{Ipv4Only, Ipv6Only, Ipv4AndIpv6, Ipv6AndIpv4, Ipv6thenIpv4, Ipv4thenIpv6}
use Rattle.stub_lookup.specs.Lookup.{LookupContent, joined, lookup_of, max_ttl}
use Rattle.stub_lookup.specs.declared.error.NetError.TheVariants as errors
use Rattle.stub_hosts.specs.Hosts.{HostsContent, question}
use Rattle.stub_core.specs.Attempts.{AttemptsAll, Continues, Lookups, WithHosts, is_final}
use Rattle.stub_client.specs.Looks.{Reply, out_of_memory}

-- ---- one name

-- whether memory ran out
abbrev pub is_out_of_memory : Reply → Bool
is_out_of_memory (Err errors.Memory) = true
is_out_of_memory other = false

-- The reply from those for both types: the records of both, or of the one that was found, or the first error. Want of memory for
-- the second is the reply.
abbrev pub Joins : Reply → Reply → Reply → Type 0
Joins first (Err errors.Memory) reply = reply ≡ out_of_memory
Joins (Ok first) (Ok second) reply = (reply ≡ Ok (joined first second)) ⊎ (reply ≡ out_of_memory)
Joins (Ok first) (Err error) reply = reply ≡ Ok first
Joins (Err error) (Ok second) reply = reply ≡ Ok second
Joins (Err first) (Err second) reply = reply ≡ Err first

-- both types are asked for, one after the other
abbrev pub Both : {S : Type 0} → Lookups S RecordType → RecordType → RecordType → S → Reply → S → Type 0
Both {S} tries first second old reply new =
    (one : Reply) × (mid : S) × tries old first one mid
    × Continues (is_out_of_memory one) (λ reply new. (two : Reply) × tries mid second two new × Joins one two reply)
    one mid reply new

-- the second type is asked for where the first has no records or an error
abbrev pub Then : {S : Type 0} → Lookups S RecordType → RecordType → RecordType → S → Reply → S → Type 0
Then {S} tries first second old reply new =
    (one : Reply) × (mid : S) × tries old first one mid
    × Continues (is_final one) (λ reply new. tries mid second reply new) one mid reply new

-- the types of addresses that a strategy asks for, in its order: one, both, or the second only where the first has none
abbrev pub ByStrategy : {S : Type 0} → LookupIpStrategy → Lookups S RecordType → S → Reply → S → Type 0
ByStrategy Ipv4Only tries old reply new = tries old types.A reply new
ByStrategy Ipv6Only tries old reply new = tries old types.AAAA reply new
ByStrategy Ipv4AndIpv6 tries old reply new = Both tries types.A types.AAAA old reply new
ByStrategy Ipv6AndIpv4 tries old reply new = Both tries types.AAAA types.A old reply new
ByStrategy Ipv6thenIpv4 tries old reply new = Then tries types.AAAA types.A old reply new
ByStrategy Ipv4thenIpv6 tries old reply new = Then tries types.A types.AAAA old reply new

-- the types of addresses that a strategy asks for
abbrev pub kinds_of : LookupIpStrategy → List RecordType
kinds_of Ipv4Only = types.A ∷ []
kinds_of Ipv6Only = types.AAAA ∷ []
kinds_of both = types.A ∷ types.AAAA ∷ []

-- the addresses of a name; the hosts are asked for each type
abbrev pub LooksUpAddresses : {S : Type 0} → LookupIpStrategy → HostsContent → ℕ → Lookups S Query → S → DomainName → Reply → S
    → Type 0
LooksUpAddresses strategy hosts now asks old name reply new =
    ByStrategy strategy (λ old kind reply new. WithHosts hosts now asks old (question name kind) reply new) old reply new

-- ---- names

-- the text of the error of a lookup of the addresses of no names
abbrev pub no_addresses : List ℕ
no_addresses = codes "can not lookup IPs for no names"

-- a lookup with one record without an owner, for the addresses of the root
abbrev pub fallback_record : RData → Record
fallback_record rdata = record { name = record { is_fqdn = false; labels = [] }; dns_class = IN; ttl = max_ttl; rdata = rdata }

-- a lookup with this record alone, for the addresses of the root
abbrev pub fallback : RData → ℕ → LookupContent
fallback rdata now =
    lookup_of (question (record { is_fqdn = true; labels = [] }) types.A) (fallback_record rdata ∷ []) (now + max_ttl)

-- the last reply if it ends the lookup, or else a lookup of the address
abbrev pub OrAddress : Bool → RData → ℕ → Reply → Reply → Type 0
OrAddress true rdata now last reply = reply ≡ last
OrAddress false rdata now last reply = (reply ≡ Ok (fallback rdata now)) ⊎ (reply ≡ out_of_memory)

-- the last reply, or the address that is returned if no name has one
abbrev pub EndsWith : Option RData → ℕ → Reply → Reply → Type 0
EndsWith None now last reply = reply ≡ last
EndsWith (Some rdata) now last reply = OrAddress (is_final last) rdata now last reply

-- The addresses of the first of the names that has some. The hosts are asked for each name and type.
abbrev pub LooksUpIp : {S : Type 0} → LookupIpStrategy → HostsContent → ℕ → Lookups S Query → Option RData → S
    → List DomainName → Reply → S → Type 0
LooksUpIp strategy hosts now asks finally old names reply new =
    (last : Reply)
    × AttemptsAll no_addresses (λ old name reply new. LooksUpAddresses strategy hosts now asks old name reply new)
    old names last new
    × EndsWith finally now last reply
