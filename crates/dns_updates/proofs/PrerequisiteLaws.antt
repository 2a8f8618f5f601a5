-- The code with which an update with one prerequisite and no change is answered.
use Rattle.std.proofs.Common.{◌≡◌, ◌↔◌, ℕ, Bool, true, false, cond, not, ◌&&◌, List, [], ◌∷◌, refl, ap, ◌∙◌}
use Rattle.dns_wire.specs.declared.codes.dns_class.DNSClass.TheVariants as classes
use Rattle.dns_wire.specs.declared.codes.record_type.RecordType.{RecordType}
use Rattle.dns_wire.specs.declared.codes.record_type.RecordType.TheVariants as types
use Rattle.dns_names.specs.Name.{DomainName}
use Rattle.dns_names.specs.Compare.{lower, same_labels}
use Rattle.dns_records.specs.Rows.{Rows}
use Rattle.dns_messages.specs.declared.response_code.ResponseCode.{ResponseCode}
use Rattle.dns_messages.specs.declared.response_code.ResponseCode.TheVariants.{NoError, NXDomain, YXDomain, YXRRSet, NXRRSet, NotAuth, NotZone}
use Rattle.dns_updates.specs.Records.{has_rows, has_set, is_in_zone, is_type}
use Rattle.dns_updates.specs.Code.{fault_if, first_fault, update_code, zone_code}
use Rattle.dns_updates.specs.Builders.{empty_record, update_message, zone_section}

-- labels are equal, ignoring ASCII case, exactly if they are equal in lower case
abbrev pub Alike : Type 0
Alike = (a b : List (List ℕ)) → (same_labels a b ≡ true) ↔ (lower a ≡ lower b)

last_fault : (c : ResponseCode) → first_fault c NoError ≡ c
last_fault NoError = refl
last_fault fault = refl

-- the zone section passes, the owner of the prerequisite is in the zone, and there are no sets of data and no changes
one_prerequisite : Alike → (zone : DomainName) (inside : Bool) (code : ResponseCode) → inside ≡ true
    → first_fault (zone_code zone (zone_section zone classes.IN))
    (first_fault (first_fault (first_fault (fault_if (not inside) NotZone) code) NoError) NoError) ≡ code
one_prerequisite alike zone inside code e =
    ap (λ b. first_fault (fault_if (not (b && true)) NotAuth)
    (first_fault (first_fault (first_fault (fault_if (not inside) NotZone) code) NoError) NoError)) ((alike zone.labels zone.labels).1 refl)
    ∙ ap (λ b. first_fault (first_fault (first_fault (fault_if (not b) NotZone) code) NoError) NoError) e
    ∙ last_fault (first_fault code NoError) ∙ last_fault code

pub required_name : Alike → (id : ℕ) (zone name : DomainName) (rows : Rows) → is_in_zone zone name ≡ true
    → update_code zone rows (update_message id zone classes.IN false (empty_record classes.ANY name types.ANY ∷ []) []) ≡ fault_if (not (has_rows rows name)) NXDomain
required_name alike id zone name rows inside = one_prerequisite alike zone (is_in_zone zone name) (fault_if (not (has_rows rows name)) NXDomain) inside

pub forbidden_name : Alike → (id : ℕ) (zone name : DomainName) (rows : Rows) → is_in_zone zone name ≡ true
    → update_code zone rows (update_message id zone classes.IN false (empty_record classes.NONE name types.ANY ∷ []) []) ≡ fault_if (has_rows rows name) YXDomain
forbidden_name alike id zone name rows inside = one_prerequisite alike zone (is_in_zone zone name) (fault_if (has_rows rows name) YXDomain) inside

pub required_set : Alike → (id : ℕ) (zone name : DomainName) (t : RecordType) (rows : Rows) → is_in_zone zone name ≡ true → is_type types.ANY t ≡ false
    → update_code zone rows (update_message id zone classes.IN false (empty_record classes.ANY name t ∷ []) []) ≡ fault_if (not (has_set rows name t)) NXRRSet
required_set alike id zone name t rows inside any =
    one_prerequisite alike zone (is_in_zone zone name) (cond (is_type types.ANY t) (fault_if (not (has_rows rows name)) NXDomain) (fault_if (not (has_set rows name t)) NXRRSet)) inside
    ∙ ap (λ b. cond b (fault_if (not (has_rows rows name)) NXDomain) (fault_if (not (has_set rows name t)) NXRRSet)) any

pub forbidden_set : Alike → (id : ℕ) (zone name : DomainName) (t : RecordType) (rows : Rows) → is_in_zone zone name ≡ true → is_type types.ANY t ≡ false
    → update_code zone rows (update_message id zone classes.IN false (empty_record classes.NONE name t ∷ []) []) ≡ fault_if (has_set rows name t) YXRRSet
forbidden_set alike id zone name t rows inside any =
    one_prerequisite alike zone (is_in_zone zone name) (cond (is_type types.ANY t) (fault_if (has_rows rows name) YXDomain) (fault_if (has_set rows name t) YXRRSet)) inside
    ∙ ap (λ b. cond b (fault_if (has_rows rows name) YXDomain) (fault_if (has_set rows name t) YXRRSet)) any
