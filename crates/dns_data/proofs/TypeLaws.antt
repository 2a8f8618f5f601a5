-- Tables of the types with fields.
use Rattle.std.proofs.Common.{◌≡◌, ◌≢◌, ℕ, false, List, [], ◌∷◌, refl, rules}
use Rattle.dns_wire.specs.declared.codes.record_type.RecordType.{RecordType}
use Rattle.dns_wire.specs.declared.codes.record_type.RecordType.TheVariants as types
use Rattle.dns_data.specs.Field.{Kind, Opaque, Values}
use Rattle.dns_data.specs.Text.{has_text}
use Rattle.dns_data.specs.declared.rdata.RData.{RData}
use Rattle.dns_data.specs.declared.rdata.RData.TheVariants as of
use Rattle.dns_data.specs.rdata.{kinds_of_type}

-- a type that is none of those with fields has opaque data
pub opaque_kinds : (t : RecordType) → t ≢ types.A → t ≢ types.AAAA → t ≢ types.CNAME → t ≢ types.NS → t ≢ types.PTR → t ≢ types.MX → t ≢ types.SOA → t ≢ types.SRV → t ≢ types.TXT → t ≢ types.OPT → kinds_of_type t ≡ Opaque ∷ []
opaque_kinds types.A a aaaa cname ns ptr mx soa srv txt opt = absurd (a refl)
opaque_kinds t a aaaa cname ns ptr mx soa srv txt opt = search rules

-- and no text form, also if it is OPT
pub no_form : (t : RecordType) → ¬ (t ≡ types.A) → ¬ (t ≡ types.AAAA) → ¬ (t ≡ types.CNAME) → ¬ (t ≡ types.NS) → ¬ (t ≡ types.PTR) → ¬ (t ≡ types.MX) → ¬ (t ≡ types.SOA) → ¬ (t ≡ types.SRV) → ¬ (t ≡ types.TXT)
    → has_text (kinds_of_type t) ≡ false
no_form types.A a b c d e f g h i = absurd (a refl)
no_form t a b c d e f g h i = search rules

-- the data of a type with some values
abbrev pub data_of : (t : RecordType) → Values (kinds_of_type t) → RData
data_of types.A v = of.A (record { 0 = v.0 })
data_of types.AAAA v = of.AAAA (record { 0 = v.0 })
data_of types.CNAME v = of.CNAME (record { 0 = v.0 })
data_of types.NS v = of.NS (record { 0 = v.0 })
data_of types.PTR v = of.PTR (record { 0 = v.0 })
data_of types.MX v = of.MX (record { preference = v.0; exchange = v.1.0 })
data_of types.SOA v = of.SOA (record { mname = v.0; rname = v.1.0; serial = v.1.1.0; refresh = v.1.1.1.0; retry = v.1.1.1.1.0; expire = v.1.1.1.1.1.0; minimum = v.1.1.1.1.1.1.0 })
data_of types.SRV v = of.SRV (record { priority = v.0; weight = v.1.0; port = v.1.1.0; target = v.1.1.1.0 })
data_of types.TXT v = of.TXT v.0
data_of types.OPT v = of.OPT v.0
data_of other v = of.Unknown other v.0

-- opaque data is that of a type without fields
pub opaque_values : (P : (kinds : List Kind) → Values kinds → Type 0) (code : RecordType) (bytes : List ℕ) → Opaque ∷ [] ≡ kinds_of_type code → P (Opaque ∷ []) (bytes, tt)
    → (v : Values (kinds_of_type code)) × (of.Unknown code bytes ≡ data_of code v) × P (kinds_of_type code) v
opaque_values P types.A bytes e h = absurd (cc)
opaque_values P types.AAAA bytes e h = absurd (cc)
opaque_values P types.CNAME bytes e h = absurd (cc)
opaque_values P types.NS bytes e h = absurd (cc)
opaque_values P types.PTR bytes e h = absurd (cc)
opaque_values P types.MX bytes e h = absurd (cc)
opaque_values P types.SOA bytes e h = absurd (cc)
opaque_values P types.SRV bytes e h = absurd (cc)
opaque_values P types.TXT bytes e h = absurd (cc)
opaque_values P types.OPT bytes e h = absurd (cc)
opaque_values P code bytes e h = ((bytes, tt), refl, h)
