-- Names that do not exist, and those below them.
use Rattle.std.proofs.Common.{◌≡◌, ◌+◌, ◌-◌, ◌<◌, ◌≤◌, ◌==◌, ◌&&◌, ◌||◌, not, Bool, true, false, cond, nat_lt, ℕ, zero, suc, List, [], ◌∷◌, length, drop, map, refl, sym, ap, ◌∙◌, arith, Option, Some, None}
use Rattle.std.specs.Prelude.{is_some, unwrap_or}
use Rattle.std.specs.List.{find, range_with_len}
use Rattle.std.specs.FinMap as rows_map
use Rattle.std.specs.Ordering.{eq_by_cmp}
use Rattle.std.specs.Str.{str_eq_ignore_ascii_case}
use Rattle.dns_wire.specs.declared.codes.record_type.RecordType.{RecordType}
use Rattle.dns_wire.specs.declared.codes.record_type.RecordType.TheVariants as types
use Rattle.dns_names.specs.Name.{DomainName}
use Rattle.dns_names.specs.Build.{trim_to}
use Rattle.dns_names.specs.Compare.{at_or_below, lower, same_labels}
use Rattle.dns_names.specs.Labels.{begins_with_star}
use Rattle.dns_records.specs.declared.row.Row.{Row}
use Rattle.dns_updates.proofs.ChangeLaws.{same_itself}
use Rattle.dns_updates.proofs.UpdateLaws.Kept.{any_weaker}
use Rattle.dns_updates.proofs.UpdateLaws.Maps.{same_key}
use Rattle.dns_zone.specs.Rows.{Key, Rows, ZoneContent, key, key_cmp, rows_at, some_row_below}
use Rattle.dns_authority.specs.steps.Barrier.{has_rows, is_barrier}
use Rattle.dns_authority.proofs.WildcardLaws.{trimmed}

-- ---- the rows of a name

below_itself : (labels : List (List ℕ)) → at_or_below labels (lower labels) ≡ true
below_itself [] = refl
below_itself (l ∷ ls) = ap (λ (b : Bool). b || at_or_below (l ∷ ls) (lower ls)) (same_itself (l ∷ ls) types.A)

none_there : (o : Option (List Row)) → is_some o ≡ false → unwrap_or o [] ≡ []
none_there None e = refl
none_there (Some rows) e = absurd (cc)

-- a name that does not exist has no rows
pub absent_rows : (rows : Rows) (labels : List (List ℕ)) (t : RecordType) → some_row_below rows labels ≡ false → rows_at rows labels t ≡ []
absent_rows rows labels t none =
    none_there (rows_map.get rows (key labels t))
    (rows_map.contains_key-keys rows (key labels t)
    ∙ any_weaker (λ (k : Key). at_or_below labels k.0) (eq_by_cmp key_cmp (key labels t)) here (rows_map.keys rows) none)
  where
    here : (x : Key) → eq_by_cmp key_cmp (key labels t) x ≡ true → at_or_below labels x.0 ≡ true
    here x tie = ap (λ (q : Key). at_or_below labels q.0) (sym (same_key (key labels t) x tie)) ∙ below_itself labels

-- ---- names below it

and_second : (a b : Bool) → (a && b) ≡ true → b ≡ true
and_second true b e = e
and_second false b e = absurd (cc)

or_true : (b : Bool) → (b || true) ≡ true
or_true true = refl
or_true false = refl

at_itself : (o a : List (List ℕ)) → same_labels o a ≡ true → at_or_below o a ≡ true
at_itself o [] e = e
at_itself o (l ∷ ls) e = ap (λ (b : Bool). b || at_or_below o ls) e

above_too : (l : List ℕ) (o x : List (List ℕ)) → at_or_below (l ∷ o) x ≡ true → at_or_below o x ≡ true
above_too l o [] e = absurd (cc)
above_too l o (y ∷ ys) e = by (same_labels (l ∷ o) (y ∷ ys)) refl e (above_too l o ys)
  where
    further : at_or_below o ys ≡ true → (same_labels o (y ∷ ys) || at_or_below o ys) ≡ true
    further h = ap (λ (b : Bool). same_labels o (y ∷ ys) || b) h ∙ or_true (same_labels o (y ∷ ys))

    by : (b : Bool) → same_labels (l ∷ o) (y ∷ ys) ≡ b → (b || at_or_below (l ∷ o) ys) ≡ true → (at_or_below (l ∷ o) ys ≡ true → at_or_below o ys ≡ true)
        → (same_labels o (y ∷ ys) || at_or_below o ys) ≡ true
    by true same h more = further (at_itself o ys (and_second (str_eq_ignore_ascii_case l y) (same_labels o ys) same))
    by false other h more = further (more h)

below_absent : (rows : Rows) (l : List ℕ) (o : List (List ℕ)) → some_row_below rows o ≡ false → some_row_below rows (l ∷ o) ≡ false
below_absent rows l o none =
    any_weaker (λ (k : Key). at_or_below o k.0) (λ (k : Key). at_or_below (l ∷ o) k.0) (λ k e. above_too l o k.0 e) (rows_map.keys rows) none

one_label : (n : ℕ) (labels : List (List ℕ)) → n < length labels → (l : List ℕ) × (drop n labels ≡ l ∷ drop (suc n) labels)
one_label n [] below = absurd (omega arith)
one_label zero (l ∷ labels) below = (l, refl)
one_label (suc n) (l ∷ labels) below = one_label n labels (omega arith)

-- a name below one that does not exist does not exist
pub absent_below : (rows : Rows) (labels : List (List ℕ)) (past : ℕ) → past < length labels → some_row_below rows (drop (suc past) labels) ≡ false
    → some_row_below rows (drop past labels) ≡ false
absent_below rows labels past below none =
    let first = one_label past labels below in
    ap (some_row_below rows) first.1 ∙ below_absent rows first.0 (drop (suc past) labels) none

-- ---- barriers

all_false : (a b : Bool) → ((a && (b && false)) || false) ≡ false
all_false true true = refl
all_false true false = refl
all_false false b = refl

no_rows : (rows : Rows) (name : DomainName) (t : RecordType) → some_row_below rows name.labels ≡ false → has_rows rows name t ≡ false
no_rows rows name t none = ap (λ (rs : List Row). not (length rs == 0)) (absent_rows rows name.labels t none)

no_barrier : (zone : ZoneContent) (name : DomainName) → some_row_below zone.rows name.labels ≡ false → is_barrier zone name ≡ false
no_barrier zone name none =
    let deeper = nat_lt (length zone.origin.labels) (length name.labels) in
    let plain = not (begins_with_star name.labels) in
    ap (λ (b : Bool). (deeper && (plain && b)) || has_rows zone.rows name types.DNAME) (no_rows zone.rows name types.NS none)
    ∙ ap (λ (b : Bool). (deeper && (plain && false)) || b) (no_rows zone.rows name types.DNAME none)
    ∙ all_false deeper plain

-- the name with so many labels, without those before them
trim : (name : DomainName) (kept : ℕ) → kept ≤ length name.labels → (trim_to name kept).labels ≡ drop (length name.labels - kept) name.labels
trim name kept le = ap (λ (n : DomainName). n.labels) (trimmed name (length name.labels - kept) kept (omega arith) (omega (arith, le)))

-- no name below one that does not exist is a barrier
pub none_below : (zone : ZoneContent) (name : DomainName) (kept count : ℕ) → kept + count ≤ length name.labels → some_row_below zone.rows (trim_to name kept).labels ≡ false
    → find (is_barrier zone) (map (trim_to name) (range_with_len kept count)) ≡ None
none_below zone name kept zero le none = refl
none_below zone name kept (suc count) le none =
    ap (λ (b : Bool). cond b (Some (trim_to name kept)) (find (is_barrier zone) (map (trim_to name) (range_with_len (kept + 1) count)))) (no_barrier zone (trim_to name kept) none)
    ∙ none_below zone name (kept + 1) count (omega (arith, le)) next
  where
    one_more : suc (length name.labels - (kept + 1)) ≡ length name.labels - kept
    one_more = omega (arith, le)

    next : some_row_below zone.rows (trim_to name (kept + 1)).labels ≡ false
    next =
        ap (some_row_below zone.rows) (trim name (kept + 1) (omega (arith, le)))
        ∙ absent_below zone.rows name.labels (length name.labels - (kept + 1)) (omega (arith, le))
        (ap (λ (n : ℕ). some_row_below zone.rows (drop n name.labels)) one_more ∙ sym (ap (some_row_below zone.rows) (trim name kept (omega (arith, le)))) ∙ none)
