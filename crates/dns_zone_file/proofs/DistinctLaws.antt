-- Insertions keep the data of a set distinct.
use Rattle.std.proofs.Common.{◌≡◌, Bool, true, false, not, cond, ◌||◌, List, [], ◌∷◌, ◌++◌, refl}
use Rattle.std.specs.List.{list_any, IsDistinct, AllByRecursion}
use Rattle.dns_wire.specs.declared.codes.record_type.RecordType.{RecordType}
use Rattle.dns_wire.specs.declared.codes.record_type.RecordType.TheVariants as types
use Rattle.dns_data.specs.rdata.{data_type}
use Rattle.dns_records.specs.Record.{Record}
use Rattle.dns_records.specs.RecordSet.{AreDistinct, record_data, has_data, is_addition, added, inserted}

pub last_too : {A : Type 0} (P : A → Type 0) (xs : List A) (x : A) → AllByRecursion P xs → P x → AllByRecursion P (xs ++ x ∷ [])
last_too P [] x all p = (p, tt)
last_too P (y ∷ ys) x all p = (all.0, last_too P ys x all.1 p)

neither : (a b : Bool) → (a || b) ≡ false → (a ≡ false) × (b ≡ false)
neither true b e = absurd (cc)
neither false b e = (refl, e)

pub none_distinct : {A : Type 0} (e : A → A → Bool) → IsDistinct e []
unfolding IsDistinct
none_distinct e = tt

pub one_distinct : {A : Type 0} (e : A → A → Bool) (x : A) → IsDistinct e (x ∷ [])
unfolding IsDistinct
one_distinct e x = (tt, tt)

last_distinct : {A : Type 0} (e : A → A → Bool) (xs : List A) (y : A) → IsDistinct e xs → list_any (λ x. e x y) xs ≡ false → IsDistinct e (xs ++ y ∷ [])
unfolding IsDistinct
last_distinct e [] y d none = (tt, tt)
last_distinct e (x ∷ xs) y d none =
    let others = neither (e x y) (list_any (λ z. e z y) xs) none in
    (last_too (λ z. e x z ≡ false) xs y d.0 others.0, last_distinct e xs y d.1 others.1)

replaced : (xs : List Record) (r : Record) (b : Bool) → AreDistinct record_data xs → AreDistinct record_data (cond b (r ∷ []) xs)
replaced xs r true d = one_distinct _ r
replaced xs r false d = d

joined : (xs : List Record) (r : Record) (b : Bool) → has_data record_data xs (record_data r) ≡ b → AreDistinct record_data xs → AreDistinct record_data (cond (not b) (xs ++ r ∷ []) xs)
joined xs r true e d = d
joined xs r false e d = last_distinct _ xs r d e

of_type : (t : RecordType) (xs : List Record) (r : Record) → AreDistinct record_data xs → AreDistinct record_data (cond (is_addition record_data t xs r) (added t xs r) xs)
of_type types.CNAME xs r d = one_distinct _ r
of_type types.SOA xs r d = replaced xs r (is_addition record_data types.SOA xs r) d
of_type other xs r d = joined xs r (has_data record_data xs (record_data r)) refl d

pub inserted_distinct : (xs : List Record) (r : Record) → AreDistinct record_data xs → AreDistinct record_data (inserted record_data xs r)
inserted_distinct xs r d = of_type (data_type (record_data r)) xs r d
