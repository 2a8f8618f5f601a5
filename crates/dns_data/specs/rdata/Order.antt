-- The order of record data: by variant, and data of one variant by their fields.
use Rattle.std.specs.Prelude.{ℕ}
use Rattle.std.specs.declared.cmp.Ordering.{Ordering}
use Rattle.std.specs.Ordering.{nat_cmp, on, ordering_then, then_cmp}
use Rattle.std.specs.Cmp.Lexicographic.{slice_cmp}
use Rattle.std.specs.Net.Addr.{ipv4_octets, ipv6_segments}
use Rattle.dns_wire.specs.codes.RecordType.{type_number}
use Rattle.dns_wire.specs.declared.codes.record_type.RecordType.{RecordType}
use Rattle.dns_names.specs.Compare.{name_cmp}
use Rattle.dns_data.specs.Field.{option_cmp}
use Rattle.dns_data.specs.declared.rdata.RData.{RData}
use Rattle.dns_data.specs.declared.rdata.RData.TheVariants as of
use Rattle.dns_data.specs.declared.rdata.mx.MX.{MX}
use Rattle.dns_data.specs.declared.rdata.soa.SOA.{SOA}
use Rattle.dns_data.specs.declared.rdata.srv.SRV.{SRV}

-- types compare by number
abbrev pub type_cmp : RecordType → RecordType → Ordering
type_cmp = on type_number nat_cmp

-- MX data compare by preference, and then by exchange
abbrev pub mx_cmp : MX → MX → Ordering
mx_cmp = then_cmp (on (λ mx. mx.preference) nat_cmp) (on (λ mx. mx.exchange) name_cmp)

-- SRV data compare by priority, weight and port, and then by target
abbrev pub srv_cmp : SRV → SRV → Ordering
srv_cmp =
    then_cmp (on (λ srv. srv.priority) nat_cmp)
    (then_cmp (on (λ srv. srv.weight) nat_cmp)
    (then_cmp (on (λ srv. srv.port) nat_cmp) (on (λ srv. srv.target) name_cmp)))

-- SOA data compare by their fields, in the order of their encoding
abbrev pub soa_cmp : SOA → SOA → Ordering
soa_cmp =
    then_cmp (on (λ soa. soa.mname) name_cmp)
    (then_cmp (on (λ soa. soa.rname) name_cmp)
    (then_cmp (on (λ soa. soa.serial) nat_cmp)
    (then_cmp (on (λ soa. soa.refresh) nat_cmp)
    (then_cmp (on (λ soa. soa.retry) nat_cmp)
    (then_cmp (on (λ soa. soa.expire) nat_cmp) (on (λ soa. soa.minimum) nat_cmp))))))

-- the place of a variant among all
abbrev pub variant_index : RData → ℕ
variant_index (of.A fields) = 0
variant_index (of.AAAA fields) = 1
variant_index (of.CNAME fields) = 2
variant_index (of.NS fields) = 3
variant_index (of.PTR fields) = 4
variant_index (of.MX fields) = 5
variant_index (of.SOA fields) = 6
variant_index (of.SRV fields) = 7
variant_index (of.TXT fields) = 8
variant_index (of.OPT fields) = 9
variant_index (of.Update0 t) = 10
variant_index (of.Unknown code bytes) = 11

-- the order of data
abbrev pub data_cmp : RData → RData → Ordering
data_cmp (of.A x) (of.A y) = slice_cmp nat_cmp (ipv4_octets x.0) (ipv4_octets y.0)
data_cmp (of.AAAA x) (of.AAAA y) = slice_cmp nat_cmp (ipv6_segments x.0) (ipv6_segments y.0)
data_cmp (of.CNAME x) (of.CNAME y) = name_cmp x.0 y.0
data_cmp (of.NS x) (of.NS y) = name_cmp x.0 y.0
data_cmp (of.PTR x) (of.PTR y) = name_cmp x.0 y.0
data_cmp (of.MX x) (of.MX y) = mx_cmp x y
data_cmp (of.SOA x) (of.SOA y) = soa_cmp x y
data_cmp (of.SRV x) (of.SRV y) = srv_cmp x y
data_cmp (of.TXT x) (of.TXT y) = slice_cmp (slice_cmp nat_cmp) x y
data_cmp (of.OPT x) (of.OPT y) = slice_cmp option_cmp x y
data_cmp (of.Update0 t) (of.Update0 u) = type_cmp t u
data_cmp (of.Unknown t x) (of.Unknown u y) = ordering_then (type_cmp t u) (slice_cmp nat_cmp x y)
data_cmp x y = nat_cmp (variant_index x) (variant_index y)
