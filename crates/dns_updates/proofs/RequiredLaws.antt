-- The data that prerequisites require, kept by the places of their sets until it is compared.
use Rattle.std.proofs.Common.{◌≡◌, ◌<◌, ◌+◌, ℕ, Bool, true, false, cond, ◌&&◌, ◌||◌, List, [], ◌∷◌, ◌++◌, map, take, refl, sym, ap, ◌∙◌, subst, length, get_or, zero, suc, arith, Option, Some, None, unwrap_or}
use Rattle.std.proofs.lemmas.List.{append-nil, map-append, take_more}
use Rattle.std.proofs.lemmas.List.Elements.{filter-append}
use Rattle.std.proofs.lemmas.List.Folds.{list_all-append}
use Rattle.std.specs.Cmp.{Equal-is, eq_by_cmp_equiv}
use Rattle.std.specs.FinMap as rows_map
use Rattle.std.specs.List.{filter, list_all, list_any}
use Rattle.std.specs.Option.{option_map}
use Rattle.dns_wire.specs.codes.RecordType.{type_number}
use Rattle.dns_wire.specs.declared.codes.record_type.RecordType.{RecordType}
use Rattle.dns_data.specs.declared.rdata.RData.{RData}
use Rattle.dns_names.specs.Compare.{same_labels}
use Rattle.dns_names.specs.internal.Compare.{same_labels-equivalence}
use Rattle.dns_records.specs.Record.{Record}
use Rattle.dns_records.specs.declared.row.Row.{Row}
use Rattle.dns_records.specs.Rows.{Rows, key_of, rows_at, rows_of, type_of_record}
use Rattle.dns_updates.specs.Code.{has_required, is_required_with, required_data}
use Rattle.dns_updates.specs.Keys.{Place, place_cmp}
use Rattle.dns_updates.specs.Records.{is_in_class, is_type, same_data_set}
use Rattle.dns_updates.specs.declared.code.required_data.RequiredData.{RequiredData}
use Rattle.dns_updates.specs.internal.Required.{AreLeft, IsLeftFor, all_data_at, data_at, is_place, record_place}
use Rattle.dns_updates.proofs.CodeLaws.{data_of_rows}
use Rattle.dns_updates.proofs.PlaceLaws.{keys_of_place, place_exact, place_total, places_tie}
use Rattle.dns_updates.proofs.SetLaws.{keys_tie}
use Rattle.dns_updates.proofs.UpdateLaws.Codes.{number_itself}

-- ---- places

same_place : (p q : Place) → is_place p q ≡ true → p ≡ q
same_place p q e = place_exact p q ((Equal-is (place_cmp p q)).0 e)

pub map_of_cond : {A B : Type 0} (f : A → B) (b : Bool) (x y : Option A) → option_map f (cond b x y) ≡ cond b (option_map f x) (option_map f y)
map_of_cond f true x y = refl
map_of_cond f false x y = refl

-- data that is taken from its place, and put there again with more
pub data_added : (old mid new : RequiredData) (own : Place) (ds : List RData) (d : RData)
    → ((p : Place) → data_at mid p ≡ cond (is_place own p) None (data_at old p))
    → ((p : Place) → data_at new p ≡ cond (is_place own p) (Some ds) (data_at mid p))
    → ds ≡ all_data_at old own ++ d ∷ []
    → (p : Place) → all_data_at new p ≡ cond (is_place own p) (all_data_at old p ++ d ∷ []) (all_data_at old p)
data_added old mid new own ds d taken put is p =
    ap (λ o. unwrap_or o []) (put p ∙ ap (cond (is_place own p) (Some ds)) (taken p)) ∙ by (is_place own p) refl
  where
    by : (b : Bool) → is_place own p ≡ b → unwrap_or (cond b (Some ds) (cond b None (data_at old p))) [] ≡ cond b (all_data_at old p ++ d ∷ []) (all_data_at old p)
    by true e = is ∙ ap (λ q. all_data_at old q ++ d ∷ []) (same_place own p e)
    by false e = refl

-- ---- one more prerequisite

same_set : Record → Record → Bool
same_set r p = same_labels r.name.labels p.name.labels && is_type (type_of_record r) (type_of_record p)

at_place : (r p : Record) → is_place (record_place p) (record_place r) ≡ same_set r p
unfolding same_set
at_place r p =
    (eq_by_cmp_equiv place_total).symm (record_place p) (record_place r)
    ∙ places_tie r.name.labels p.name.labels (type_of_record r) (type_of_record p)
    ∙ sym (keys_tie r.name.labels p.name.labels (type_of_record r) (type_of_record p))

cond_append : (b : Bool) (ds : List RData) (d : RData) → cond b (ds ++ d ∷ []) ds ≡ ds ++ cond b (d ∷ []) []
cond_append true ds d = refl
cond_append false ds d = sym (append-nil ds)

pub required_added : (r p : Record) (own : Place) (old : List RData) → own ≡ record_place p → is_in_class p.dns_class ≡ true
    → cond (is_place own (record_place r)) (old ++ p.rdata ∷ []) old ≡ old ++ cond (is_required_with r p) (p.rdata ∷ []) []
unfolding same_set
required_added r p own old e here =
    ap (λ q. cond (is_place q (record_place r)) (old ++ p.rdata ∷ []) old) e
    ∙ ap (λ b. cond b (old ++ p.rdata ∷ []) old) (at_place r p)
    ∙ cond_append (same_set r p) old p.rdata
    ∙ ap (λ b. old ++ cond (b && same_set r p) (p.rdata ∷ []) []) (sym here)

pub not_added : (r p : Record) (old : List RData) → is_in_class p.dns_class ≡ false → old ≡ old ++ cond (is_required_with r p) (p.rdata ∷ []) []
unfolding same_set
not_added r p old other =
    sym (append-nil old) ∙ ap (λ b. old ++ cond (b && same_set r p) (p.rdata ∷ []) []) (sym other)

data_of_cond : (b : Bool) (p : Record) → cond b (p.rdata ∷ []) [] ≡ map (λ (q : Record). q.rdata) (cond b (p ∷ []) [])
data_of_cond true p = refl
data_of_cond false p = refl

pub group_more : (r : Record) (ps : List Record) (i : ℕ) (p d : Record) (before new : List RData) → i < length ps → p ≡ get_or ps i d
    → new ≡ before ++ cond (is_required_with r p) (p.rdata ∷ []) [] → before ≡ required_data (take i ps) r → new ≡ required_data (take (i + 1) ps) r
group_more r ps i p d before new h e is inv =
    is ∙ (λ j. inv j ++ data_of_cond (is_required_with r p) p j)
    ∙ sym (map-append (λ (q : Record). q.rdata) (filter (is_required_with r) (take i ps)) (filter (is_required_with r) (p ∷ [])))
    ∙ ap (map (λ (q : Record). q.rdata)) (sym (filter-append (is_required_with r) (take i ps) (p ∷ [])))
    ∙ ap (λ q. required_data (take i ps ++ q ∷ []) r) e ∙ ap (λ qs. required_data qs r) (sym (take_more ps i d h))

-- ---- what is left

none_required : (w : Record → Bool) (ps : List Record) → [] ≡ map (λ (q : Record). q.rdata) (filter w ps) → list_any w ps ≡ true → ⊥
none_required w [] e any = cc
none_required w (p ∷ ps) e any = by (w p) e any (none_required w ps)
  where
    by : (b : Bool) → [] ≡ map (λ (q : Record). q.rdata) (cond b (p ∷ filter w ps) (filter w ps)) → (b || list_any w ps) ≡ true
        → ([] ≡ map (λ (q : Record). q.rdata) (filter w ps) → list_any w ps ≡ true → ⊥) → ⊥
    by true f g more = cc
    by false f g more = more f g

module _ (rows : Rows) (ps : List Record) where
  -- at first all data that is required is left
  pub all_left : (groups : RequiredData) → ((r : Record) → all_data_at groups (record_place r) ≡ required_data ps r) → AreLeft rows ps groups
  all_left groups all r any = by (data_at groups (record_place r)) (all r)
    where
      by : (o : Option (List RData)) → unwrap_or o [] ≡ required_data ps r → IsLeftFor rows ps r o
      by None e = absurd (none_required (is_required_with r) ps e any)
      by (Some ds) e = e

  -- a set without a group was compared
  pub compared_for : (groups : RequiredData) (p r : Record) (own : Place) → own ≡ record_place p → record_place p ≡ record_place r → None ≡ data_at groups own
      → AreLeft rows ps groups → list_any (is_required_with r) ps ≡ true → has_required rows ps r ≡ true
  compared_for groups p r own e same none left any =
      subst (IsLeftFor rows ps r) (sym (none ∙ ap (data_at groups) (e ∙ same))) (left r any)

  -- a group is compared with the zone's records of its owner and type
  pub met_for : (groups : RequiredData) (p r : Record) (own : Place) (t : RecordType) (ds : List RData) (present : List Record) (met : Bool)
      → own ≡ record_place p → record_place p ≡ record_place r → Some ds ≡ data_at groups own
      → met ≡ same_data_set ds (map (λ (q : Record). q.rdata) present) → rows_of present ≡ rows_at rows p.name.labels t → t ≡ type_of_record p
      → AreLeft rows ps groups → list_any (is_required_with r) ps ≡ true → met ≡ has_required rows ps r
  met_for groups p r own t ds present met e same some is there of_type left any =
      let wanted : ds ≡ required_data ps r = subst (IsLeftFor rows ps r) (sym (some ∙ ap (data_at groups) (e ∙ same))) (left r any) in
      let keys : key_of p ≡ key_of r = keys_of_place p.name.labels r.name.labels (type_of_record p) (type_of_record r) same in
      let found : rows_of present ≡ rows_at rows r.name.labels (type_of_record r) =
      there ∙ ap (rows_at rows p.name.labels) of_type ∙ ap (λ k. unwrap_or (rows_map.get rows k) []) keys in
      let data_there : map (λ (q : Record). q.rdata) present ≡ map (λ (row : Row). row.rdata) (rows_at rows r.name.labels (type_of_record r)) =
      sym (data_of_rows present) ∙ ap (map (λ (row : Row). row.rdata)) found in
      is ∙ (λ i. same_data_set (wanted i) (data_there i))

  -- a group that was met leaves
  pub left_after : (old new : RequiredData) (p : Record) (own : Place) → own ≡ record_place p
      → ((q : Place) → data_at new q ≡ cond (is_place own q) None (data_at old q))
      → ((r : Record) → record_place p ≡ record_place r → list_any (is_required_with r) ps ≡ true → has_required rows ps r ≡ true)
      → AreLeft rows ps old → AreLeft rows ps new
  left_after old new p own e others met left r any = subst (IsLeftFor rows ps r) (sym (others (record_place r))) (by (is_place own (record_place r)) refl)
    where
      by : (b : Bool) → is_place own (record_place r) ≡ b → IsLeftFor rows ps r (cond b None (data_at old (record_place r)))
      by true f = met r (sym e ∙ same_place own (record_place r) f) any
      by false f = left r any

-- ---- the loop over the prerequisites

or_true : (b : Bool) → (b || true) ≡ true
or_true true = refl
or_true false = refl

and_false : (b : Bool) → (b && false) ≡ false
and_false true = refl
and_false false = refl

any_at : (w : Record → Bool) (ps : List Record) (i : ℕ) (d : Record) → i < length ps → w (get_or ps i d) ≡ true → list_any w ps ≡ true
any_at w [] i d h e = absurd (omega arith)
any_at w (p ∷ ps) zero d h e = ap (λ b. b || list_any w ps) e
any_at w (p ∷ ps) (suc i) d h e = ap (λ b. w p || b) (any_at w ps i d (omega arith) e) ∙ or_true (w p)

itself : (p : Record) → is_in_class p.dns_class ≡ true → is_required_with p p ≡ true
itself p here =
    λ i. here i && (same_labels-equivalence.refl p.name.labels i && number_itself (type_number (type_of_record p)) i)

-- a prerequisite of class IN requires data of its own set
pub requires_itself : (ps : List Record) (i : ℕ) (p d : Record) → i < length ps → p ≡ get_or ps i d → is_in_class p.dns_class ≡ true → list_any (is_required_with p) ps ≡ true
requires_itself ps i p d h e here = any_at (is_required_with p) ps i d h (ap (is_required_with p) (sym e) ∙ itself p here)

-- one more that passes, if it is of the class
pub passed_more : (w q : Record → Bool) (ps : List Record) (i : ℕ) (p d : Record) → i < length ps → p ≡ get_or ps i d → list_all w (filter q (take i ps)) ≡ true
    → list_all w (filter q (p ∷ [])) ≡ true → list_all w (filter q (take (i + 1) ps)) ≡ true
passed_more w q ps i p d h e all one =
    ap (λ qs. list_all w (filter q qs)) (take_more ps i d h ∙ ap (λ x. take i ps ++ x ∷ []) (sym e))
    ∙ ap (list_all w) (filter-append q (take i ps) (p ∷ []))
    ∙ list_all-append w (filter q (take i ps)) (filter q (p ∷ []))
    ∙ (λ j. all j && one j)

-- one that does not
refused_at : (w q : Record → Bool) (ps : List Record) (i : ℕ) (d : Record) → i < length ps → list_all w (filter q (get_or ps i d ∷ [])) ≡ false → list_all w (filter q ps) ≡ false
refused_at w q [] i d h e = absurd (omega arith)
refused_at w q (p ∷ ps) zero d h e = by (q p) (w p) refl e
  where
    by : (c b : Bool) → w p ≡ b → list_all w (cond c (p ∷ []) []) ≡ false → list_all w (cond c (p ∷ filter q ps) (filter q ps)) ≡ false
    by true true f g = absurd (true_false (sym (ap (λ b. b && true) f) ∙ g))
      where
        true_false : true ≡ false → ⊥
        true_false e = cc
    by true false f g = ap (λ b. b && list_all w (filter q ps)) f
    by false b f g = absurd (cc)
refused_at w q (p ∷ ps) (suc i) d h e = by (q p) (refused_at w q ps i d (omega arith) e)
  where
    by : (c : Bool) → list_all w (filter q ps) ≡ false → list_all w (cond c (p ∷ filter q ps) (filter q ps)) ≡ false
    by true more = ap (λ b. w p && b) more ∙ and_false (w p)
    by false more = more

pub refused : (w q : Record → Bool) (ps : List Record) (i : ℕ) (p d : Record) → i < length ps → p ≡ get_or ps i d → list_all w (filter q (p ∷ [])) ≡ false → list_all w (filter q ps) ≡ false
refused w q ps i p d h e f = refused_at w q ps i d h (ap (λ x. list_all w (filter q (x ∷ []))) (sym e) ∙ f)

-- a prerequisite alone, of the class and of another
pub met_alone : (w : Record → Bool) (p : Record) (met : Bool) → is_in_class p.dns_class ≡ true → met ≡ w p → met ≡ list_all w (filter (λ (r : Record). is_in_class r.dns_class) (p ∷ []))
met_alone w p met here e = e ∙ and_true (w p) ∙ sym (ap (λ b. list_all w (cond b (p ∷ []) [])) here)
  where
    and_true : (b : Bool) → b ≡ (b && true)
    and_true true = refl
    and_true false = refl

pub met_not : (w : Record → Bool) (p : Record) → is_in_class p.dns_class ≡ false → true ≡ list_all w (filter (λ (r : Record). is_in_class r.dns_class) (p ∷ []))
met_not w p other = sym (ap (λ b. list_all w (cond b (p ∷ []) [])) other)
