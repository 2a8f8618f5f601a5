-- The codes of updates: faults in order, and the sets that prerequisites require.
use Rattle.std.proofs.Common.{◌≡◌, ◌≢◌, ◌==◌, ◌+◌, ◌<◌, ℕ, Bool, true, false, cond, not, ◌&&◌, ◌||◌, List, [], ◌∷◌, ◌++◌, map, refl, sym, ap, ◌∙◌, length, take, get_or, unwrap_or, zero, suc, arith}
use Rattle.std.proofs.lemmas.List.{take_more}
use Rattle.std.proofs.lemmas.List.Elements.{filter-append}
use Rattle.std.proofs.lemmas.List.Folds.{list_all-append}
use Rattle.std.specs.List.{list_any, list_all, filter}
use Rattle.std.specs.FinMap as rows_map
use Rattle.dns_wire.specs.codes.RecordType.{type_number}
use Rattle.dns_names.specs.Compare.{lower, same_labels}
use Rattle.dns_data.specs.declared.rdata.RData.{RData}
use Rattle.dns_data.specs.rdata.{same_data}
use Rattle.dns_records.specs.Record.{Record}
use Rattle.dns_records.specs.Rows.{Rows, key_of, rows_of, type_of_record}
use Rattle.dns_messages.specs.declared.response_code.ResponseCode.{ResponseCode}
use Rattle.dns_messages.specs.declared.response_code.ResponseCode.TheVariants.{NoError}
use Rattle.dns_updates.specs.Records.{is_in_class, is_among, same_data_set}
use Rattle.dns_updates.specs.Code.{first_fault, is_required_with, required_data, has_required}
use Rattle.dns_updates.proofs.Walks.{filter_alike}
use Rattle.dns_updates.proofs.UpdateLaws.Codes.{number_same, and_both}
use Rattle.dns_updates.proofs.UpdateLaws.Sets.{Alike}

-- ---- faults

pub fault_first : (c next : ResponseCode) → c ≢ NoError → first_fault c next ≡ c
fault_first NoError next h = absurd (h refl)
fault_first fault next h = refl

-- ---- data that is required

-- rows of records have the records' data
pub data_of_rows : (rs : List Record) → map (λ row. row.rdata) (rows_of rs) ≡ map (λ (r : Record). r.rdata) rs
data_of_rows [] = refl
data_of_rows (r ∷ rs) = ap (λ ds. r.rdata ∷ ds) (data_of_rows rs)

pub missing_not : (present : List RData) (r p : Record) (ps : List Record) → (is_required_with r p && not (is_among present p.rdata)) ≡ false
    → list_all (is_among present) (required_data (p ∷ ps) r) ≡ list_all (is_among present) (required_data ps r)
missing_not present r p ps e = by (is_required_with r p) (is_among present p.rdata) refl e
  where
    by : (b m : Bool) → is_among present p.rdata ≡ m → (b && not m) ≡ false
        → list_all (is_among present) (map (λ (q : Record). q.rdata) (cond b (p ∷ filter (is_required_with r) ps) (filter (is_required_with r) ps))) ≡ list_all (is_among present) (required_data ps r)
    by true true m e = ap (λ b. b && list_all (is_among present) (required_data ps r)) m
    by true false m e = absurd (cc)
    by false other m e = refl

pub missing_is : (present : List RData) (r p : Record) (ps : List Record) → (is_required_with r p && not (is_among present p.rdata)) ≡ true
    → list_all (is_among present) (required_data (p ∷ ps) r) ≡ false
missing_is present r p ps e = by (is_required_with r p) (is_among present p.rdata) refl e
  where
    by : (b m : Bool) → is_among present p.rdata ≡ m → (b && not m) ≡ true
        → list_all (is_among present) (map (λ (q : Record). q.rdata) (cond b (p ∷ filter (is_required_with r) ps) (filter (is_required_with r) ps))) ≡ false
    by true true m e = absurd (cc)
    by true false m e = ap (λ b. b && list_all (is_among present) (required_data ps r)) m
    by false other m e = absurd (cc)

pub as_not : (d : RData) (r p : Record) (ps : List Record) → (is_required_with r p && same_data d p.rdata) ≡ false
    → is_among (required_data (p ∷ ps) r) d ≡ is_among (required_data ps r) d
as_not d r p ps e = by (is_required_with r p) e
  where
    by : (b : Bool) → (b && same_data d p.rdata) ≡ false
        → is_among (map (λ (q : Record). q.rdata) (cond b (p ∷ filter (is_required_with r) ps) (filter (is_required_with r) ps))) d ≡ is_among (required_data ps r) d
    by true e = ap (λ b. b || is_among (required_data ps r) d) e
    by false e = refl

pub as_is : (d : RData) (r p : Record) (ps : List Record) → (is_required_with r p && same_data d p.rdata) ≡ true
    → is_among (required_data (p ∷ ps) r) d ≡ true
as_is d r p ps e = by (is_required_with r p) e
  where
    by : (b : Bool) → (b && same_data d p.rdata) ≡ true
        → is_among (map (λ (q : Record). q.rdata) (cond b (p ∷ filter (is_required_with r) ps) (filter (is_required_with r) ps))) d ≡ true
    by true e = ap (λ b. b || is_among (required_data ps r) d) e
    by false e = absurd (cc)

-- ---- each set once

alike_first : Alike → (a b c : List (List ℕ)) → lower a ≡ lower b → same_labels a c ≡ same_labels b c
alike_first alike a b c e = by (same_labels a c) (same_labels b c) refl refl
  where
    by : (x y : Bool) → same_labels a c ≡ x → same_labels b c ≡ y → x ≡ y
    by true true p q = refl
    by false false p q = refl
    by true false p q = sym ((alike b c).1 (sym e ∙ (alike a c).0 p)) ∙ q
    by false true p q = sym p ∙ (alike a c).1 (e ∙ (alike b c).0 q)

module _ (alike : Alike) (rows : Rows) (ps : List Record) where
  -- records of one owner and type require the same set
  same_required : (r p : Record) → is_required_with r p ≡ true → has_required rows ps r ≡ has_required rows ps p
  same_required r p e =
      let both = and_both (same_labels r.name.labels p.name.labels) _ (and_both (is_in_class p.dns_class) _ e).1 in
      let owners : lower r.name.labels ≡ lower p.name.labels = (alike r.name.labels p.name.labels).0 both.0 in
      let numbers : type_number (type_of_record r) ≡ type_number (type_of_record p) = number_same _ _ both.1 in
      let with_same : (q : Record) → is_required_with r q ≡ is_required_with p q =
      λ q i. is_in_class q.dns_class && (alike_first alike r.name.labels p.name.labels q.name.labels owners i && (numbers i == type_number (type_of_record q))) in
      let keys : key_of r ≡ key_of p = λ i. (owners i, numbers i) in
      λ i. same_data_set (map (λ (q : Record). q.rdata) (filter_alike (is_required_with r) (is_required_with p) with_same ps i)) (map (λ row. row.rdata) (unwrap_or (rows_map.get rows (keys i)) []))

  in_class : Record → Bool
  in_class q = is_in_class q.dns_class

  -- a set that an earlier prerequisite requires was tested
  tested : (r : Record) (qs : List Record) → list_any (is_required_with r) qs ≡ true → list_all (has_required rows ps) (filter in_class qs) ≡ true → has_required rows ps r ≡ true
  unfolding in_class
  tested r [] any all = absurd (cc)
  tested r (q ∷ qs) any all = by (is_in_class q.dns_class) (is_required_with r q) refl refl any all (λ a. tested r qs a)
    where
      by : (c b : Bool) → is_in_class q.dns_class ≡ c → is_required_with r q ≡ b → (b || list_any (is_required_with r) qs) ≡ true
          → list_all (has_required rows ps) (cond c (q ∷ filter in_class qs) (filter in_class qs)) ≡ true
          → (list_any (is_required_with r) qs ≡ true → list_all (has_required rows ps) (filter in_class qs) ≡ true → has_required rows ps r ≡ true) → has_required rows ps r ≡ true
      by true true c b any all more = same_required r q b ∙ (and_both (has_required rows ps q) _ all).0
      by false true c b any all more = absurd (true_false (sym ((and_both (is_in_class q.dns_class) _ b).0) ∙ c))
        where
          true_false : true ≡ false → ⊥
          true_false e = cc
      by true false c b any all more = more any (and_both (has_required rows ps q) _ all).1
      by false false c b any all more = more any all

  -- one more prerequisite
  more_tested : (i : ℕ) (r : Record) → i < length ps → r ≡ get_or ps i r → list_all (has_required rows ps) (filter in_class (take i ps)) ≡ true
      → list_all (has_required rows ps) (cond (in_class r) (r ∷ []) []) ≡ true → list_all (has_required rows ps) (filter in_class (take (i + 1) ps)) ≡ true
  more_tested i r h e all one =
      ap (λ qs. list_all (has_required rows ps) (filter in_class qs)) (take_more ps i r h ∙ ap (λ q. take i ps ++ q ∷ []) (sym e))
      ∙ ap (list_all (has_required rows ps)) (filter-append in_class (take i ps) (r ∷ []))
      ∙ list_all-append (has_required rows ps) (filter in_class (take i ps)) (filter in_class (r ∷ []))
      ∙ (λ j. all j && one j)

  pub first_tested : (i : ℕ) (r : Record) → i < length ps → r ≡ get_or ps i r → list_all (has_required rows ps) (filter (λ (q : Record). is_in_class q.dns_class) (take i ps)) ≡ true
      → has_required rows ps r ≡ true → list_all (has_required rows ps) (filter (λ (q : Record). is_in_class q.dns_class) (take (i + 1) ps)) ≡ true
  unfolding in_class
  first_tested i r h e all one = more_tested i r h e all (by (in_class r))
    where
      by : (c : Bool) → list_all (has_required rows ps) (cond c (r ∷ []) []) ≡ true
      by true = ap (λ b. b && true) one
      by false = refl

  pub others_tested : (i : ℕ) (r : Record) (earlier : List Record) → earlier ≡ take i ps → i < length ps → r ≡ get_or ps i r
      → list_all (has_required rows ps) (filter (λ (q : Record). is_in_class q.dns_class) (take i ps)) ≡ true
      → (is_in_class r.dns_class && not (list_any (is_required_with r) earlier)) ≡ false
      → list_all (has_required rows ps) (filter (λ (q : Record). is_in_class q.dns_class) (take (i + 1) ps)) ≡ true
  unfolding in_class
  others_tested i r earlier is h e all not_first = more_tested i r h e all (by (is_in_class r.dns_class) (list_any (is_required_with r) earlier) refl not_first)
    where
      by : (c b : Bool) → list_any (is_required_with r) earlier ≡ b → (c && not b) ≡ false → list_all (has_required rows ps) (cond c (r ∷ []) []) ≡ true
      by true true b f = ap (λ x. x && true) (tested r (take i ps) (ap (list_any (is_required_with r)) (sym is) ∙ b) all)
      by true false b f = absurd (cc)
      by false other b f = refl

and_false : (b : Bool) → (b && false) ≡ false
and_false true = refl
and_false false = refl

-- one that the test refuses
pub all_fails : {A : Type 0} (p q : A → Bool) (xs : List A) (i : ℕ) (x : A) → i < length xs → x ≡ get_or xs i x → q x ≡ true → p x ≡ false → list_all p (filter q xs) ≡ false
all_fails p q [] i x h e a b = absurd (omega arith)
all_fails p q (y ∷ ys) zero x h e a b =
    ap (λ c. list_all p (cond c (y ∷ filter q ys) (filter q ys))) (ap q (sym e) ∙ a) ∙ ap (λ c. c && list_all p (filter q ys)) (ap p (sym e) ∙ b)
all_fails p q (y ∷ ys) (suc i) x h e a b = by (all_fails p q ys i x (omega arith) e a b) (q y)
  where
    by : list_all p (filter q ys) ≡ false → (c : Bool) → list_all p (cond c (y ∷ filter q ys) (filter q ys)) ≡ false
    by more true = ap (λ c. p y && c) more ∙ and_false (p y)
    by more false = more
