-- Entries in the order of their stamps: what is appended, removed, found and evicted.
use Rattle.std.proofs.Common.{◌≡◌, ℕ, ◌<◌, ◌≤◌, Bool, true, false, List, [], ◌∷◌, ◌++◌, refl, ap, sym, ◌∙◌, subst, arith, ◌⊎◌, inl, inr}
use Rattle.std.specs.Prelude.{Option, Some, None, cond, nat_le, IsSome}
use Rattle.std.specs.Ordering.{is_eq, nat_cmp, match_ordering}
use Rattle.std.specs.declared.cmp.Ordering.TheVariants.{Greater, Less}
use Rattle.std.specs.BTreeMap as tree
use Rattle.std.specs.Map.{lookup, remove_entry, values_of, keys_of}
use Rattle.std.specs.List.{AllByRecursion, list_any, find}
use Rattle.std.specs.List.Sorted.{IsStrictlySortedBy}
use Rattle.std.proofs.lemmas.Bool.{and_left, and_right, and_from, le-leb, lt-leb, cases_eq, eq-eqb, ne_eqb}
use Rattle.std.proofs.lemmas.Bool.Decides.{nat_tests}
use Rattle.std.proofs.lemmas.Map.Keys.{sorted_head, sorted_tail}
use Rattle.dns_messages.specs.declared.query.Query.{Query}
use Rattle.stub_cache.specs.Cache.{cleared_of, evicted, is_about, is_current, is_first_due}
use Rattle.stub_cache.specs.declared.cache.entry.Entry.{Entry}
use Rattle.stub_cache.specs.internal.Table.{IsIndexed, stamped}
use Rattle.stub_cache.specs.declared.cache.table.EntryTable.{EntryTable}
use Rattle.stub_cache.proofs.StampLaws.{all_from_found, by_stamp_ordered, is_at_itself, is_at_other, slot_from_found}
use Rattle.stub_cache.proofs.TableLaws.{is_stamp}

-- ---- stamps below another

abbrev pub AllBelow : ℕ → List (ℕ × Entry) → Type 0
AllBelow stamp es = AllByRecursion (λ p. p.0 < stamp) es

is_above : (stamp other : ℕ) → other < stamp → nat_cmp stamp other ≡ Greater
is_above stamp other lower = grind (arith, nat_tests)

is_below : (stamp other : ℕ) → nat_cmp stamp other ≡ Less → stamp < other
is_below stamp other lower = grind (arith, nat_tests)

-- all stamps are below the next one
pub all_below : (leaving : Option ℕ) (t : EntryTable) → IsIndexed leaving t → AllBelow t.next_stamp (stamped t)
all_below leaving t is =
    all_from_found (λ (p : ℕ × Entry). p.0 < t.next_stamp) (stamped t) (by_stamp_ordered t.slots.slots)
    (λ stamp e found. let place = slot_from_found t.slots.slots stamp e found in is.fresh place.0 (stamp, e) place.1)

-- an entry with a later stamp than all others comes last
pub insert_last : (es : List (ℕ × Entry)) (stamp : ℕ) (e : Entry) → AllBelow stamp es → tree.insert_entry nat_cmp es stamp e ≡ es ++ (stamp, e) ∷ []
insert_last [] stamp e below = refl
insert_last (p ∷ es) stamp e below =
    ap (λ o. match_ordering o ((stamp, e) ∷ p ∷ es) ((p.0, e) ∷ es) (p ∷ tree.insert_entry nat_cmp es stamp e)) (is_above stamp p.0 below.0)
    ∙ ap (λ xs. p ∷ xs) (insert_last es stamp e below.1)

-- an entry that is there is removed from the front
pub remove_before : (es more : List (ℕ × Entry)) (stamp : ℕ) → IsSome (lookup (tree.is_at (nat_cmp stamp)) es)
    → remove_entry (tree.is_at (nat_cmp stamp)) (es ++ more) ≡ remove_entry (tree.is_at (nat_cmp stamp)) es ++ more
remove_before [] more stamp some = absurd (cc)
remove_before (p ∷ es) more stamp some = split (tree.is_at (nat_cmp stamp) p.0) refl (remove_before es more stamp)
  where
    split : (b : Bool) → tree.is_at (nat_cmp stamp) p.0 ≡ b
        → (IsSome (lookup (tree.is_at (nat_cmp stamp)) es) → remove_entry (tree.is_at (nat_cmp stamp)) (es ++ more) ≡ remove_entry (tree.is_at (nat_cmp stamp)) es ++ more)
        → remove_entry (tree.is_at (nat_cmp stamp)) (p ∷ es ++ more) ≡ remove_entry (tree.is_at (nat_cmp stamp)) (p ∷ es) ++ more
    split true is rest = rw is refl
    split false is rest = let others : IsSome (lookup (tree.is_at (nat_cmp stamp)) es) = rw is at some in rw is (ap (λ xs. p ∷ xs) (rest others))

-- ---- entries for a question

-- whether each entry is for a question, if one at the most is: the one with a stamp
abbrev pub AreAbout : Query → Option ℕ → List (ℕ × Entry) → Type 0
AreAbout q stamp es = AllByRecursion (λ p. is_about q p.1 ≡ is_stamp p.0 stamp) es

pub clear_none : (q : Query) (es : List (ℕ × Entry)) → AreAbout q None es → cleared_of q (values_of es) ≡ values_of es
clear_none q [] about = refl
clear_none q (p ∷ es) about = rw about.0 (ap (λ xs. p.1 ∷ xs) (clear_none q es about.1))

pub any_none : (q : Query) (es : List (ℕ × Entry)) → AreAbout q None es → list_any (is_about q) (values_of es) ≡ false
any_none q [] about = refl
any_none q (p ∷ es) about = rw about.0 (any_none q es about.1)

pub find_none : (q : Query) (now : ℕ) (es : List (ℕ × Entry)) → AreAbout q None es → find (is_current q now) (values_of es) ≡ None
find_none q now [] about = refl
find_none q now (p ∷ es) about = rw about.0 (find_none q now es about.1)

-- entries with later stamps than that of the question's are not for it
later_none : (q : Query) (stamp : ℕ) (es : List (ℕ × Entry)) → AreAbout q (Some stamp) es → AllByRecursion (λ k. nat_cmp stamp k ≡ Less) (keys_of es) → AreAbout q None es
later_none q stamp [] about later = tt
later_none q stamp (p ∷ es) about later =
    let lower = is_below stamp p.0 later.0 in
    (about.0 ∙ ne_eqb stamp p.0 (λ same. omega (arith, same, lower)), later_none q stamp es about.1 later.1)

-- an entry, if it is not past its deadline
abbrev pub unless_due : ℕ → Option Entry → Option Entry
unless_due now None = None
unless_due now (Some e) = cond (nat_le now e.deadline) (Some e) None

module _ (q : Query) (stamp : ℕ) where
  -- the head of the entries is the question's, and no other is
  clear_head : (p : ℕ × Entry) (es : List (ℕ × Entry)) → AreAbout q (Some stamp) (p ∷ es) → IsStrictlySortedBy nat_cmp (keys_of (p ∷ es)) → (stamp ≡ p.0) ⊎ (stamp ≡ p.0 → ⊥)
      → cleared_of q (values_of es) ≡ values_of (remove_entry (tree.is_at (nat_cmp stamp)) es)
      → cleared_of q (values_of (p ∷ es)) ≡ values_of (remove_entry (tree.is_at (nat_cmp stamp)) (p ∷ es))
  clear_head p es about sorted (inl same) rest =
      let first : is_about q p.1 ≡ true = about.0 ∙ eq-eqb stamp p.0 same in
      let later = subst (λ s. AllByRecursion (λ k. nat_cmp s k ≡ Less) (keys_of es)) (sym same) (sorted_head nat_cmp p.0 (keys_of es) sorted) in
      let here : tree.is_at (nat_cmp stamp) p.0 ≡ true = subst (λ s. is_eq (nat_cmp stamp s) ≡ true) same (is_at_itself stamp) in
      rw first (rw here (clear_none q es (later_none q stamp es about.1 later)))
  clear_head p es about sorted (inr differs) rest =
      let first : is_about q p.1 ≡ false = about.0 ∙ ne_eqb stamp p.0 differs in
      let here : tree.is_at (nat_cmp stamp) p.0 ≡ false = is_at_other stamp p.0 differs in
      rw first (rw here (ap (λ xs. p.1 ∷ xs) rest))

  pub clear_one : (es : List (ℕ × Entry)) → AreAbout q (Some stamp) es → IsStrictlySortedBy nat_cmp (keys_of es)
      → cleared_of q (values_of es) ≡ values_of (remove_entry (tree.is_at (nat_cmp stamp)) es)
  clear_one [] about sorted = refl
  clear_one (p ∷ es) about sorted =
      clear_head p es about sorted (cases_eq stamp p.0) (clear_one es about.1 (sorted_tail nat_cmp p.0 (keys_of es) sorted))

  any_head : (p : ℕ × Entry) (es : List (ℕ × Entry)) → AreAbout q (Some stamp) (p ∷ es) → IsSome (lookup (tree.is_at (nat_cmp stamp)) (p ∷ es)) → (stamp ≡ p.0) ⊎ (stamp ≡ p.0 → ⊥)
      → (IsSome (lookup (tree.is_at (nat_cmp stamp)) es) → list_any (is_about q) (values_of es) ≡ true) → list_any (is_about q) (values_of (p ∷ es)) ≡ true
  any_head p es about some (inl same) rest = let first : is_about q p.1 ≡ true = about.0 ∙ eq-eqb stamp p.0 same in rw first refl
  any_head p es about some (inr differs) rest =
      let first : is_about q p.1 ≡ false = about.0 ∙ ne_eqb stamp p.0 differs in
      let here : tree.is_at (nat_cmp stamp) p.0 ≡ false = is_at_other stamp p.0 differs in
      let others : IsSome (lookup (tree.is_at (nat_cmp stamp)) es) = rw here at some in
      rw first (rest others)

  pub any_one : (es : List (ℕ × Entry)) → AreAbout q (Some stamp) es → IsSome (lookup (tree.is_at (nat_cmp stamp)) es) → list_any (is_about q) (values_of es) ≡ true
  any_one [] about some = absurd (cc)
  any_one (p ∷ es) about some = any_head p es about some (cases_eq stamp p.0) (any_one es about.1)

  find_head : (now : ℕ) (p : ℕ × Entry) (es : List (ℕ × Entry)) → AreAbout q (Some stamp) (p ∷ es) → IsStrictlySortedBy nat_cmp (keys_of (p ∷ es)) → (stamp ≡ p.0) ⊎ (stamp ≡ p.0 → ⊥)
      → find (is_current q now) (values_of es) ≡ unless_due now (lookup (tree.is_at (nat_cmp stamp)) es)
      → find (is_current q now) (values_of (p ∷ es)) ≡ unless_due now (lookup (tree.is_at (nat_cmp stamp)) (p ∷ es))
  find_head now p es about sorted (inl same) rest =
      let first : is_about q p.1 ≡ true = about.0 ∙ eq-eqb stamp p.0 same in
      let later = subst (λ s. AllByRecursion (λ k. nat_cmp s k ≡ Less) (keys_of es)) (sym same) (sorted_head nat_cmp p.0 (keys_of es) sorted) in
      let here : tree.is_at (nat_cmp stamp) p.0 ≡ true = subst (λ s. is_eq (nat_cmp stamp s) ≡ true) same (is_at_itself stamp) in
      let none = find_none q now es (later_none q stamp es about.1 later) in
      rw first (rw here (ap (λ o. cond (nat_le now p.1.deadline) (Some p.1) o) none))
  find_head now p es about sorted (inr differs) rest =
      let first : is_about q p.1 ≡ false = about.0 ∙ ne_eqb stamp p.0 differs in
      let here : tree.is_at (nat_cmp stamp) p.0 ≡ false = is_at_other stamp p.0 differs in
      rw first (rw here rest)

  pub find_one : (now : ℕ) (es : List (ℕ × Entry)) → AreAbout q (Some stamp) es → IsStrictlySortedBy nat_cmp (keys_of es)
      → find (is_current q now) (values_of es) ≡ unless_due now (lookup (tree.is_at (nat_cmp stamp)) es)
  find_one now [] about sorted = refl
  find_one now (p ∷ es) about sorted =
      find_head now p es about sorted (cases_eq stamp p.0) (find_one now es about.1 (sorted_tail nat_cmp p.0 (keys_of es) sorted))

-- ---- the entry that is evicted

-- the entry with a stamp is due no later than others, and before those with earlier stamps
abbrev pub IsFirstDue : ℕ → ℕ → List (ℕ × Entry) → Type 0
IsFirstDue deadline stamp es = AllByRecursion (λ p. (deadline < p.1.deadline) ⊎ ((deadline ≡ p.1.deadline) × (stamp ≤ p.0))) es

is_first : (e : Entry) (stamp : ℕ) (es : List (ℕ × Entry)) → IsFirstDue e.deadline stamp es → is_first_due e (values_of es) ≡ true
is_first e stamp [] due = refl
is_first e stamp (p ∷ es) due = and_from (nat_le e.deadline p.1.deadline) (is_first_due e (values_of es)) (le-leb e.deadline p.1.deadline (no_later due.0)) (is_first e stamp es due.1)
  where
    no_later : (e.deadline < p.1.deadline) ⊎ ((e.deadline ≡ p.1.deadline) × (stamp ≤ p.0)) → e.deadline ≤ p.1.deadline
    no_later (inl sooner) = omega (arith, sooner)
    no_later (inr tie) = omega (arith, tie.0)

is_not_first : (e first : Entry) (stamp : ℕ) (es : List (ℕ × Entry)) → lookup (tree.is_at (nat_cmp stamp)) es ≡ Some first → first.deadline < e.deadline → is_first_due e (values_of es) ≡ false
is_not_first e first stamp [] found sooner = absurd (cc)
is_not_first e first stamp (p ∷ es) found sooner = split (tree.is_at (nat_cmp stamp) p.0) refl (λ rest. is_not_first e first stamp es rest sooner)
  where
    split : (b : Bool) → tree.is_at (nat_cmp stamp) p.0 ≡ b
        → (lookup (tree.is_at (nat_cmp stamp)) es ≡ Some first → is_first_due e (values_of es) ≡ false) → is_first_due e (values_of (p ∷ es)) ≡ false
    split true is rest =
        let here : Some p.1 ≡ Some first = rw is at found in
        let same : p.1 ≡ first = cc in
        let lower : p.1.deadline < e.deadline = omega (arith, ap (λ (x : Entry). x.deadline) same, sooner) in
        and_left (nat_le e.deadline p.1.deadline) (is_first_due e (values_of es)) (lt-leb e.deadline p.1.deadline lower)
    split false is rest =
        let later : lookup (tree.is_at (nat_cmp stamp)) es ≡ Some first = rw is at found in
        and_right (nat_le e.deadline p.1.deadline) (is_first_due e (values_of es)) (rest later)

-- a stamp that is there is above what is below all stamps
above_lower : (low stamp : ℕ) (first : Entry) (es : List (ℕ × Entry)) → lookup (tree.is_at (nat_cmp stamp)) es ≡ Some first → AllByRecursion (λ k. nat_cmp low k ≡ Less) (keys_of es) → low < stamp
above_lower low stamp first [] found lower = absurd (cc)
above_lower low stamp first (p ∷ es) found lower = split (cases_eq stamp p.0) (λ rest. above_lower low stamp first es rest lower.1)
  where
    split : (stamp ≡ p.0) ⊎ (stamp ≡ p.0 → ⊥) → (lookup (tree.is_at (nat_cmp stamp)) es ≡ Some first → low < stamp) → low < stamp
    split (inl same) rest = let below = is_below low p.0 lower.0 in omega (arith, same, below)
    split (inr differs) rest = let here = is_at_other stamp p.0 differs in let later : lookup (tree.is_at (nat_cmp stamp)) es ≡ Some first = rw here at found in rest later

pub evict_first : (stamp : ℕ) (first : Entry) (es : List (ℕ × Entry)) → lookup (tree.is_at (nat_cmp stamp)) es ≡ Some first → IsFirstDue first.deadline stamp es → IsStrictlySortedBy nat_cmp (keys_of es)
    → evicted (values_of es) ≡ values_of (remove_entry (tree.is_at (nat_cmp stamp)) es)
evict_first stamp first [] found due sorted = refl
evict_first stamp first (p ∷ es) found due sorted =
    split (cases_eq stamp p.0) (λ rest. evict_first stamp first es rest due.1 (sorted_tail nat_cmp p.0 (keys_of es) sorted))
  where
    split : (stamp ≡ p.0) ⊎ (stamp ≡ p.0 → ⊥)
        → (lookup (tree.is_at (nat_cmp stamp)) es ≡ Some first → evicted (values_of es) ≡ values_of (remove_entry (tree.is_at (nat_cmp stamp)) es))
        → evicted (values_of (p ∷ es)) ≡ values_of (remove_entry (tree.is_at (nat_cmp stamp)) (p ∷ es))
    split (inl same) rest =
        let here : tree.is_at (nat_cmp stamp) p.0 ≡ true = subst (λ s. is_eq (nat_cmp stamp s) ≡ true) same (is_at_itself stamp) in
        let entries : Some p.1 ≡ Some first = rw here at found in
        let entry : p.1 ≡ first = cc in
        let due_here : IsFirstDue p.1.deadline stamp es = subst (λ (x : Entry). IsFirstDue x.deadline stamp es) (sym entry) due.1 in
        rw here (rw (is_first p.1 stamp es due_here) refl)
    split (inr differs) rest =
        let here : tree.is_at (nat_cmp stamp) p.0 ≡ false = is_at_other stamp p.0 differs in
        let later : lookup (tree.is_at (nat_cmp stamp)) es ≡ Some first = rw here at found in
        let above : p.0 < stamp = above_lower p.0 stamp first es later (sorted_head nat_cmp p.0 (keys_of es) sorted) in
        let not_first = is_not_first p.1 first stamp es later (sooner above due.0) in
        rw here (rw not_first (ap (λ xs. p.1 ∷ xs) (rest later)))
      where
        sooner : p.0 < stamp → (first.deadline < p.1.deadline) ⊎ ((first.deadline ≡ p.1.deadline) × (stamp ≤ p.0)) → first.deadline < p.1.deadline
        sooner above (inl lower) = lower
        sooner above (inr tie) = absurd (omega (arith, above, tie.1))
