-- What insertions and removals leave.
use Rattle.std.proofs.Common.{◌≡◌, ◌<◌, ◌+◌, ◌-◌, slice_get, ℕ, Bool, true, false, not, ◌||◌, List, [], ◌∷◌, ◌++◌, refl, sym, ap, subst, ◌∙◌, length, arith, Option, Some, None, suc, cond}
use Rattle.std.specs.List.{list_any, position_or_len, IsDistinct, AllByRecursion, remove}
use Rattle.std.specs.Prelude.{nat_lt, position, is_some}
use Rattle.dns_wire.specs.declared.codes.record_type.RecordType.TheVariants as types
use Rattle.std.proofs.lemmas.Bool.{ltb-true, lt-ltb, ltb_from_iff}
use Rattle.dns_data.specs.declared.rdata.RData.{RData}
use Rattle.dns_data.specs.rdata.{data_type, same_data}
use Rattle.dns_wire.specs.declared.codes.record_type.RecordType.{RecordType}
use Rattle.dns_names.specs.Name.{DomainName}
use Rattle.dns_names.specs.Compare.{same_name}
use Rattle.dns_names.specs.internal.Compare.{same_name-equivalence}
use Rattle.dns_records.specs.Record.{Record}
use Rattle.dns_records.specs.RecordSet.{RecordSetValue, record_data, accepts_record, with_record, loses_record, without_record, AreDistinct, has_data, without_data, is_removed, inserted, is_addition, added, removed, is_protected}
use Rattle.dns_records.proofs.ListLaws.{distinct_push, distinct_one, true-not-false, first_fails, others_fail, push_last}

-- ---- the item with some data

-- what holds of a front item and of others holds of the list with or without it
all_of : {A : Type 0} (P : A → Type 0) (b : Bool) (x : A) (xs ys : List A) → P x → AllByRecursion P xs → AllByRecursion P ys → AllByRecursion P (cond b xs (x ∷ ys))
all_of P true x xs ys p all rest = all
all_of P false x xs ys p all rest = (p, rest)

without_all : {A : Type 0} (rdata : A → RData) (P : A → Type 0) (xs : List A) (d : RData) → AllByRecursion P xs → AllByRecursion P (without_data rdata xs d)
without_all rdata P [] d all = tt
without_all rdata P (x ∷ xs) d all = all_of P (same_data (rdata x) d) x xs (without_data rdata xs d) all.0 all.1 (without_all rdata P xs d all.1)

distinct_of : {A : Type 0} (e : A → A → Bool) (b : Bool) (x : A) (xs ys : List A) → IsDistinct e xs → AllByRecursion (λ y. e x y ≡ false) ys → IsDistinct e ys → IsDistinct e (cond b xs (x ∷ ys))
unfolding IsDistinct
distinct_of e true x xs ys distinct all rest = distinct
distinct_of e false x xs ys distinct all rest = (all, rest)

pub without_distinct : {A : Type 0} (rdata : A → RData) (xs : List A) (d : RData) → AreDistinct rdata xs → AreDistinct rdata (without_data rdata xs d)
unfolding IsDistinct
without_distinct rdata [] d distinct = tt
without_distinct rdata (x ∷ xs) d distinct = distinct_of (λ y z. same_data (rdata y) (rdata z)) (same_data (rdata x) d) x xs (without_data rdata xs d) distinct.1 (without_all rdata (λ y. same_data (rdata x) (rdata y) ≡ false) xs d distinct.0) (without_distinct rdata xs d distinct.1)

-- the first place of an item that passes, and whether there is one
pub one_more : (n : ℕ) → 1 + n ≡ suc n
one_more n = omega arith

pub more_within : (n len : ℕ) → nat_lt n len ≡ nat_lt (1 + n) (suc len)
more_within n len = ltb_from_iff (λ e. let h : n < len = ltb-true n len e in omega arith, λ (h : 1 + n < suc len). lt-ltb n len (omega arith))

any_within : (b rest : Bool) (n len : ℕ) → rest ≡ nat_lt n len → (b || rest) ≡ nat_lt (cond (not b) (1 + n) 0) (suc len)
any_within true rest n len e = sym (lt-ltb 0 (suc len) (omega arith))
any_within false rest n len e = e ∙ more_within n len

pub any_is : {A : Type 0} (p : A → Bool) (xs : List A) → list_any p xs ≡ nat_lt (position_or_len p xs) (length xs)
any_is p [] = refl
any_is p (x ∷ xs) = any_within (p x) (list_any p xs) (position_or_len p xs) (length xs) (any_is p xs)

some_where : (b : Bool) (n : ℕ) → is_some (cond b (Some n) None) ≡ b
some_where true n = refl
some_where false n = refl

pub has_position : (xs : List Record) (d : RData) → is_some (position (λ r. same_data r.rdata d) xs) ≡ has_data record_data xs d
has_position xs d =
    some_where (nat_lt (position_or_len (λ (r : Record). same_data r.rdata d) xs) (length xs)) (position_or_len (λ (r : Record). same_data r.rdata d) xs)
    ∙ sym (any_is (λ (r : Record). same_data r.rdata d) xs)

without_first : {A : Type 0} (b : Bool) (x : A) (xs ys : List A) (n : ℕ) → (b ≡ false → remove xs n ≡ ys) → remove (x ∷ xs) (cond (not b) (1 + n) 0) ≡ cond b xs (x ∷ ys)
without_first true x xs ys n e = refl
without_first false x xs ys n e = ap (λ k. remove (x ∷ xs) k) (one_more n) ∙ ap (λ zs. x ∷ zs) (e refl)

within_others : (b : Bool) (n len : ℕ) → nat_lt (cond (not b) (1 + n) 0) (suc len) ≡ true → b ≡ false → nat_lt n len ≡ true
within_others true n len h e = absurd (true-not-false e)
within_others false n len h e = more_within n len ∙ h

pub removed_first : {A : Type 0} (rdata : A → RData) (xs : List A) (d : RData) → nat_lt (position_or_len (λ x. same_data (rdata x) d) xs) (length xs) ≡ true → remove xs (position_or_len (λ x. same_data (rdata x) d) xs) ≡ without_data rdata xs d
removed_first rdata [] d h = absurd (true-not-false (sym h))
removed_first rdata (x ∷ xs) d h =
    without_first (same_data (rdata x) d) x xs (without_data rdata xs d) (position_or_len (λ y. same_data (rdata y) d) xs)
    (λ e. removed_first rdata xs d (within_others (same_data (rdata x) d) (position_or_len (λ y. same_data (rdata y) d) xs) (length xs) h e))

kept_first : {A : Type 0} (b : Bool) (x : A) (xs ys : List A) → b ≡ false → ys ≡ xs → cond b xs (x ∷ ys) ≡ x ∷ xs
kept_first true x xs ys e f = absurd (true-not-false e)
kept_first false x xs ys e f = ap (λ zs. x ∷ zs) f

pub without_none : {A : Type 0} (rdata : A → RData) (xs : List A) (d : RData) → has_data rdata xs d ≡ false → without_data rdata xs d ≡ xs
without_none rdata [] d none = refl
without_none rdata (x ∷ xs) d none =
    kept_first (same_data (rdata x) d) x xs (without_data rdata xs d) (first_fails (same_data (rdata x) d) (has_data rdata xs d) none) (without_none rdata xs d (others_fail (same_data (rdata x) d) (has_data rdata xs d) none))

-- what a search for some data finds
pub Found : {A : Type 0} → (A → RData) → List A → RData → Option ℕ → Type 0
Found rdata xs d None = (has_data rdata xs d ≡ false) × (without_data rdata xs d ≡ xs)
Found rdata xs d (Some i) = (has_data rdata xs d ≡ true) × (remove xs i ≡ without_data rdata xs d)

found_by : {A : Type 0} (rdata : A → RData) (xs : List A) (d : RData) (b : Bool) → nat_lt (position_or_len (λ x. same_data (rdata x) d) xs) (length xs) ≡ b → Found rdata xs d (cond b (Some (position_or_len (λ x. same_data (rdata x) d) xs)) None)
unfolding Found
found_by rdata xs d true e = (any_is (λ x. same_data (rdata x) d) xs ∙ e, removed_first rdata xs d e)
found_by rdata xs d false e =
    let none = any_is (λ x. same_data (rdata x) d) xs ∙ e in
    (none, without_none rdata xs d none)

pub found : {A : Type 0} (rdata : A → RData) (xs : List A) (d : RData) (r : Option ℕ) → r ≡ position (λ x. same_data (rdata x) d) xs → Found rdata xs d r
found rdata xs d r e = subst (Found rdata xs d) (sym e) (found_by rdata xs d (nat_lt (position_or_len (λ x. same_data (rdata x) d) xs) (length xs)) refl)

pub found_some : {A : Type 0} (rdata : A → RData) (xs : List A) (d : RData) (i : ℕ) → Some i ≡ position (λ x. same_data (rdata x) d) xs → (has_data rdata xs d ≡ true) × (remove xs i ≡ without_data rdata xs d)
unfolding Found
found_some rdata xs d i e = found rdata xs d (Some i) e

pub found_none : {A : Type 0} (rdata : A → RData) (xs : List A) (d : RData) → None ≡ position (λ x. same_data (rdata x) d) xs → (has_data rdata xs d ≡ false) × (without_data rdata xs d ≡ xs)
unfolding Found
found_none rdata xs d e = found rdata xs d None e

-- ---- removals

removed_none_by : {A : Type 0} (rdata : A → RData) (xs : List A) (d : RData) (b : Bool) → cond b false (has_data rdata xs d) ≡ false → cond b xs (without_data rdata xs d) ≡ xs
removed_none_by rdata xs d true e = refl
removed_none_by rdata xs d false e = without_none rdata xs d e

-- nothing is removed where no item is
pub removed_none : {A : Type 0} (rdata : A → RData) (t : RecordType) (xs : List A) (d : RData) → is_removed rdata t xs d ≡ false → removed rdata t xs d ≡ xs
removed_none rdata t xs d e = removed_none_by rdata xs d (is_protected t xs) e

removed_distinct_by : {A : Type 0} (rdata : A → RData) (xs : List A) (d : RData) (b : Bool) → AreDistinct rdata xs → AreDistinct rdata (cond b xs (without_data rdata xs d))
removed_distinct_by rdata xs d true distinct = distinct
removed_distinct_by rdata xs d false distinct = without_distinct rdata xs d distinct

pub removed_distinct : {A : Type 0} (rdata : A → RData) (t : RecordType) (xs : List A) (d : RData) → AreDistinct rdata xs → AreDistinct rdata (removed rdata t xs d)
removed_distinct rdata t xs d distinct = removed_distinct_by rdata xs d (is_protected t xs) distinct

-- ---- insertions

replaced_distinct : {A : Type 0} (rdata : A → RData) (xs : List A) (x : A) (b : Bool) → AreDistinct rdata xs → AreDistinct rdata (cond b (x ∷ []) xs)
replaced_distinct rdata xs x true distinct = distinct_one (λ y z. same_data (rdata y) (rdata z)) x
replaced_distinct rdata xs x false distinct = distinct

joined_distinct : {A : Type 0} (rdata : A → RData) (xs : List A) (x : A) (b : Bool) → has_data rdata xs (rdata x) ≡ b → AreDistinct rdata xs → AreDistinct rdata (cond (not b) (xs ++ x ∷ []) xs)
joined_distinct rdata xs x true e distinct = distinct
joined_distinct rdata xs x false e distinct = distinct_push (λ y z. same_data (rdata y) (rdata z)) xs x distinct e

of_type_distinct : {A : Type 0} (rdata : A → RData) (t : RecordType) (xs : List A) (x : A) → AreDistinct rdata xs → AreDistinct rdata (cond (is_addition rdata t xs x) (added t xs x) xs)
of_type_distinct rdata types.CNAME xs x distinct = distinct_one (λ y z. same_data (rdata y) (rdata z)) x
of_type_distinct rdata types.SOA xs x distinct = replaced_distinct rdata xs x (is_addition rdata types.SOA xs x) distinct
of_type_distinct rdata other xs x distinct = joined_distinct rdata xs x (has_data rdata xs (rdata x)) refl distinct

pub inserted_distinct : {A : Type 0} (rdata : A → RData) (xs : List A) (x : A) → AreDistinct rdata xs → AreDistinct rdata (inserted rdata xs x)
inserted_distinct rdata xs x distinct = of_type_distinct rdata (data_type (rdata x)) xs x distinct

-- ---- sets

pub insert_distinct : (old new xs : List Record) (r : Record) → xs ≡ old → new ≡ inserted record_data xs r → AreDistinct record_data old → AreDistinct record_data new
insert_distinct old new xs r same e distinct =
    subst (AreDistinct record_data) (sym e) (inserted_distinct record_data xs r (subst (AreDistinct record_data) (sym same) distinct))

with_distinct_by : (s : RecordSetValue) (r : Record) (serial : ℕ) (b : Bool) → AreDistinct record_data s.records → AreDistinct record_data (cond b (record s { ttl = r.ttl; serial = serial; records = inserted record_data s.records r }) s).records
with_distinct_by s r serial true distinct = inserted_distinct record_data s.records r distinct
with_distinct_by s r serial false distinct = distinct

pub with_distinct : (old new : RecordSetValue) (r : Record) (serial : ℕ) → new ≡ with_record old r serial → AreDistinct record_data old.records → AreDistinct record_data new.records
with_distinct old new r serial e distinct =
    subst (λ (s : RecordSetValue). AreDistinct record_data s.records) (sym e) (with_distinct_by old r serial (accepts_record old r) distinct)

-- a set from which no record is removed
pub none_removed : (s : RecordSetValue) (d : RData) (serial : ℕ) (xs : List Record) → loses_record s d ≡ false → xs ≡ removed record_data s.record_type s.records d → record s { records = xs } ≡ without_record s d serial
none_removed s d serial xs none e =
    ap (λ (ys : List Record). record s { records = ys }) (e ∙ removed_none record_data s.record_type s.records d none)
    ∙ sym (ap (λ b. cond b (record s { serial = serial; records = removed record_data s.record_type s.records d }) s) none)

pub same_owner : (a b : DomainName) → a ≡ b → same_name a b ≡ true
same_owner a b e = ap (λ n. same_name n b) e ∙ same_name-equivalence.refl b

-- the item that was inserted is the last
last_of_type : {A : Type 0} (t : RecordType) (xs : List A) (x : A) → slice_get (added t xs x) (length (added t xs x) - 1) ≡ Some x
last_of_type types.CNAME xs x = push_last [] x
last_of_type types.SOA xs x = push_last [] x
last_of_type other xs x = push_last xs x

pub inserted_last : (s : RecordSetValue) (r : Record) (serial : ℕ) → accepts_record s r ≡ true → slice_get (with_record s r serial).records (length (with_record s r serial).records - 1) ≡ Some r
inserted_last s r serial takes =
    let is : (with_record s r serial).records ≡ added (data_type r.rdata) s.records r = ap (λ b. (cond b (record s { ttl = r.ttl; serial = serial; records = inserted record_data s.records r }) s).records) takes ∙ ap (λ b. cond b (added (data_type r.rdata) s.records r) s.records) takes in
    ap (λ (xs : List Record). slice_get xs (length xs - 1)) is ∙ last_of_type (data_type r.rdata) s.records r
