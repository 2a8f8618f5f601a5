-- The definition of the answers of special names, computed.
use Rattle.std.specs.Prelude.{◌≡◌, true, List, [], ◌∷◌, ℕ, codes}
use Rattle.std.proofs.Common.{refl}
use Rattle.dns_wire.specs.declared.codes.record_type.RecordType.{RecordType}
use Rattle.dns_wire.specs.declared.codes.record_type.RecordType.TheVariants as types
use Rattle.dns_wire.specs.declared.codes.dns_class.DNSClass.TheVariants as classes
use Rattle.dns_names.specs.Name.{DomainName}
use Rattle.dns_text.specs.Usage.{zone_name, ip6_arpa_1_zone}
use Rattle.dns_data.specs.declared.rdata.RData.{RData}
use Rattle.dns_data.specs.declared.rdata.RData.TheVariants as of
use Rattle.dns_messages.specs.declared.query.Query.{Query}
use Rattle.dns_messages.specs.declared.response_code.ResponseCode.TheVariants.{NoError, NXDomain}
use Rattle.stub_client.specs.declared.special_names.SpecialAnswer.{SpecialAnswer}
use Rattle.stub_client.specs.declared.special_names.SpecialAnswer.TheVariants.{Ordinary, Loopback, Nothing}
use Rattle.stub_client.specs.SpecialNames.{special_answer}

abbrev full : List (List ℕ) → DomainName
full labels = record { is_fqdn = true; labels = labels }

abbrev asked : List (List ℕ) → RecordType → Query
asked labels kind = record { name = full labels; query_type = kind; query_class = classes.IN }

abbrev with_data : List (List ℕ) → RData → SpecialAnswer
with_data labels rdata = Loopback (record { name = full labels; dns_class = classes.IN; ttl = 86400; rdata = rdata })

abbrev address4 : RData
address4 = of.A (record { 0 = record { octets = 127 ∷ 0 ∷ 0 ∷ 1 ∷ [] } })

abbrev address6 : RData
address6 = of.AAAA (record { 0 = record { segments = 0 ∷ 0 ∷ 0 ∷ 0 ∷ 0 ∷ 0 ∷ 0 ∷ 1 ∷ [] } })

abbrev host : RData
host = of.PTR (record { 0 = full (codes "localhost" ∷ []) })

-- the local host has addresses, whatever the case of its name and below it
localhost_a : special_answer (asked (codes "localhost" ∷ []) types.A) ≡ with_data (codes "localhost" ∷ []) address4
localhost_a = refl

below_aaaa : special_answer (asked (codes "w" ∷ codes "LocalHost" ∷ []) types.AAAA)
    ≡ with_data (codes "w" ∷ codes "LocalHost" ∷ []) address6
below_aaaa = refl

-- it has no records of other types, but it exists
localhost_mx : special_answer (asked (codes "localhost" ∷ []) types.MX) ≡ Nothing NoError
localhost_mx = refl

localhost_any : special_answer (asked (codes "localhost" ∷ []) types.ANY) ≡ Nothing NoError
localhost_any = refl

-- its addresses have its name
reverse_127 : special_answer (asked (codes "9" ∷ codes "127" ∷ codes "in-addr" ∷ codes "ARPA" ∷ []) types.PTR)
    ≡ with_data (codes "9" ∷ codes "127" ∷ codes "in-addr" ∷ codes "ARPA" ∷ []) host
reverse_127 = refl

reverse_1 : special_answer (asked (zone_name ip6_arpa_1_zone).labels types.PTR) ≡ with_data (zone_name ip6_arpa_1_zone).labels host
reverse_1 = refl

-- names that do not exist
invalid : special_answer (asked (codes "q" ∷ codes "invalid" ∷ []) types.A) ≡ Nothing NXDomain
invalid = refl

onion : special_answer (asked (codes "onion" ∷ []) types.TXT) ≡ Nothing NXDomain
onion = refl

-- other names are asked for: those of the local link, names that only end alike, and names of other classes
local : special_answer (asked (codes "w" ∷ codes "local" ∷ []) types.A) ≡ Ordinary
local = refl

alike : special_answer (asked (codes "mylocalhost" ∷ []) types.A) ≡ Ordinary
alike = refl

inside : special_answer (asked (codes "localhost" ∷ codes "t" ∷ []) types.A) ≡ Ordinary
inside = refl

chaos : special_answer (record (asked (codes "localhost" ∷ []) types.A) { query_class = classes.CH }) ≡ Ordinary
chaos = refl
