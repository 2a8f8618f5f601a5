-- Entries of slots in the order of their stamps: what an insertion and a removal change, and where an entry is.
use Rattle.std.proofs.Common.{◌≡◌, ℕ, zero, suc, ◌+◌, ◌<◌, true, false, List, [], ◌∷◌, length, get_or, refl, ap, sym, ◌∙◌, subst, arith, ◌⊎◌, inl, inr}
use Rattle.std.specs.Prelude.{Option, Some, None, cond, is_some, count_by}
use Rattle.std.specs.Ordering.{is_eq, nat_cmp, match_ordering}
use Rattle.std.specs.declared.cmp.Ordering.{Ordering}
use Rattle.std.specs.declared.cmp.Ordering.TheVariants.{Equal, Greater, Less}
use Rattle.std.specs.BTreeMap as tree
use Rattle.std.specs.Map.{keys_of, lookup, remove_entry}
use Rattle.std.specs.List.{AllByRecursion}
use Rattle.std.specs.List.Sorted.{IsStrictlySortedBy}
use Rattle.std.proofs.lemmas.Bool.{cases_eq, cases_order, cond-true, cond-false}
use Rattle.std.proofs.lemmas.Bool.Decides.{nat_tests}
use Rattle.std.proofs.lemmas.List.Sums.{sum_by-cons}
use Rattle.std.proofs.lemmas.Map.Keys.{sorted_head, sorted_tail}
use Rattle.std.proofs.lemmas.Map.Lookups.{exact_unsigned}
use Rattle.stub_cache.specs.internal.Table.{by_stamp}
use Rattle.stub_cache.specs.declared.cache.entry.Entry.{Entry}

-- ---- stamps

pub is_at_itself : (stamp : ℕ) → is_eq (nat_cmp stamp stamp) ≡ true
is_at_itself stamp = grind (arith, nat_tests)

pub is_at_other : (stamp other : ℕ) → (stamp ≡ other → ⊥) → is_eq (nat_cmp stamp other) ≡ false
is_at_other stamp other differs = grind (arith, nat_tests)

is_less : (low high : ℕ) → low < high → nat_cmp low high ≡ Less
is_less low high below = grind (arith, nat_tests)

-- the entry with a stamp
abbrev pub found : ℕ → List (ℕ × Entry) → Option Entry
found stamp es = lookup (tree.is_at (nat_cmp stamp)) es

-- entries in the order of their stamps
abbrev pub AreOrdered : List (ℕ × Entry) → Type 0
AreOrdered es = IsStrictlySortedBy nat_cmp (keys_of es)

-- all stamps are later than one
abbrev pub AreLater : ℕ → List (ℕ × Entry) → Type 0
AreLater stamp es = AllByRecursion (λ k. nat_cmp stamp k ≡ Less) (keys_of es)

ordered_cons : (p : ℕ × Entry) (es : List (ℕ × Entry)) → AreLater p.0 es → AreOrdered es → AreOrdered (p ∷ es)
unfolding IsStrictlySortedBy
ordered_cons p es later ordered = (later, ordered)

ordered_none : AreOrdered []
unfolding IsStrictlySortedBy
ordered_none = tt

later_still : (low stamp : ℕ) (es : List (ℕ × Entry)) → low < stamp → AreLater stamp es → AreLater low es
later_still low stamp [] below later = tt
later_still low stamp (p ∷ es) below later = (first later.0, later_still low stamp es below later.1)
  where
    first : nat_cmp stamp p.0 ≡ Less → nat_cmp low p.0 ≡ Less
    first is = grind (arith, nat_tests)

later_absent : (stamp : ℕ) (es : List (ℕ × Entry)) → AreLater stamp es → found stamp es ≡ None
later_absent stamp [] later = refl
later_absent stamp (p ∷ es) later =
    cond-false (is_eq (nat_cmp stamp p.0)) _ _ (ap is_eq later.0) ∙ later_absent stamp es later.1

pub found_first : (p : ℕ × Entry) (es : List (ℕ × Entry)) → found p.0 (p ∷ es) ≡ Some p.1
found_first p es = cond-true (is_eq (nat_cmp p.0 p.0)) _ _ (is_at_itself p.0)

found_later : (stamp : ℕ) (p : ℕ × Entry) (es : List (ℕ × Entry)) → (stamp ≡ p.0 → ⊥) → found stamp (p ∷ es) ≡ found stamp es
found_later stamp p es differs = cond-false (is_eq (nat_cmp stamp p.0)) _ _ (is_at_other stamp p.0 differs)

-- what holds of each entry that is found holds of all
pub all_from_found : (P : ℕ × Entry → Type 0) (es : List (ℕ × Entry)) → AreOrdered es → ((stamp : ℕ) (e : Entry) → found stamp es ≡ Some e → P (stamp, e)) → AllByRecursion P es
all_from_found P [] ordered holds = tt
all_from_found P (p ∷ es) ordered holds =
    (holds p.0 p.1 (found_first p es), all_from_found P es (sorted_tail nat_cmp p.0 (keys_of es) ordered) (λ stamp e is. holds stamp e (found_later stamp p es (apart stamp e is) ∙ is)))
  where
    apart : (stamp : ℕ) (e : Entry) → found stamp es ≡ Some e → stamp ≡ p.0 → ⊥
    apart stamp e is same =
        let absent : found stamp es ≡ None = subst (λ s. found s es ≡ None) (sym same) (later_absent p.0 es (sorted_head nat_cmp p.0 (keys_of es) ordered)) in
        cc

-- ---- an insertion

module _ (stamp : ℕ) (e : Entry) where
  abbrev inserted : List (ℕ × Entry) → List (ℕ × Entry)
  inserted es = tree.insert_entry nat_cmp es stamp e

  inserted_found : (es : List (ℕ × Entry)) → found stamp (inserted es) ≡ Some e
  inserted_found [] = found_first (stamp, e) []
  inserted_found (p ∷ es) = split (nat_cmp stamp p.0) refl (inserted_found es)
    where
      split : (o : Ordering) → nat_cmp stamp p.0 ≡ o → found stamp (inserted es) ≡ Some e → found stamp (match_ordering o ((stamp, e) ∷ p ∷ es) ((p.0, e) ∷ es) (p ∷ inserted es)) ≡ Some e
      split Less is rest = found_first (stamp, e) (p ∷ es)
      split Equal is rest = cond-true (is_eq (nat_cmp stamp p.0)) _ _ (ap is_eq is)
      split Greater is rest = cond-false (is_eq (nat_cmp stamp p.0)) _ _ (ap is_eq is) ∙ rest

  inserted_other : (other : ℕ) → (other ≡ stamp → ⊥) → (es : List (ℕ × Entry)) → found other (inserted es) ≡ found other es
  inserted_other other differs [] = found_later other (stamp, e) [] differs
  inserted_other other differs (p ∷ es) = split (nat_cmp stamp p.0) refl (inserted_other other differs es)
    where
      split : (o : Ordering) → nat_cmp stamp p.0 ≡ o → found other (inserted es) ≡ found other es
          → found other (match_ordering o ((stamp, e) ∷ p ∷ es) ((p.0, e) ∷ es) (p ∷ inserted es)) ≡ found other (p ∷ es)
      split Less is rest = found_later other (stamp, e) (p ∷ es) differs
      split Equal is rest =
          let apart : other ≡ p.0 → ⊥ = λ same. differs (same ∙ sym (exact_unsigned stamp p.0 is)) in
          found_later other (p.0, e) es apart ∙ sym (found_later other p es apart)
      split Greater is rest = ap (λ o. cond (is_eq (nat_cmp other p.0)) (Some p.1) o) rest

  inserted_keys : (P : ℕ → Type 0) → P stamp → (es : List (ℕ × Entry)) → AllByRecursion P (keys_of es) → AllByRecursion P (keys_of (inserted es))
  inserted_keys P own [] all = (own, tt)
  inserted_keys P own (p ∷ es) all = split (nat_cmp stamp p.0) (inserted_keys P own es all.1)
    where
      split : (o : Ordering) → AllByRecursion P (keys_of (inserted es)) → AllByRecursion P (keys_of (match_ordering o ((stamp, e) ∷ p ∷ es) ((p.0, e) ∷ es) (p ∷ inserted es)))
      split Less rest = (own, all)
      split Equal rest = all
      split Greater rest = (all.0, rest)

  inserted_ordered : (es : List (ℕ × Entry)) → AreOrdered es → AreOrdered (inserted es)
  inserted_ordered [] ordered = ordered_cons (stamp, e) [] tt ordered_none
  inserted_ordered (p ∷ es) ordered = split (nat_cmp stamp p.0) refl (inserted_ordered es (sorted_tail nat_cmp p.0 (keys_of es) ordered))
    where
      later : AreLater p.0 es
      later = sorted_head nat_cmp p.0 (keys_of es) ordered

      split : (o : Ordering) → nat_cmp stamp p.0 ≡ o → AreOrdered (inserted es) → AreOrdered (match_ordering o ((stamp, e) ∷ p ∷ es) ((p.0, e) ∷ es) (p ∷ inserted es))
      split Less is rest =
          let below : stamp < p.0 = grind (arith, nat_tests) in
          ordered_cons (stamp, e) (p ∷ es) (is, later_still stamp p.0 es below later) ordered
      split Equal is rest = ordered_cons (p.0, e) es later (sorted_tail nat_cmp p.0 (keys_of es) ordered)
      split Greater is rest =
          let below : p.0 < stamp = grind (arith, nat_tests) in
          ordered_cons p (inserted es) (inserted_keys (λ k. nat_cmp p.0 k ≡ Less) (is_less p.0 stamp below) es later) rest

  inserted_length : (es : List (ℕ × Entry)) → found stamp es ≡ None → length (inserted es) ≡ length es + 1
  inserted_length [] absent = refl
  inserted_length (p ∷ es) absent = split (nat_cmp stamp p.0) refl (inserted_length es)
    where
      split : (o : Ordering) → nat_cmp stamp p.0 ≡ o → (found stamp es ≡ None → length (inserted es) ≡ length es + 1)
          → length (match_ordering o ((stamp, e) ∷ p ∷ es) ((p.0, e) ∷ es) (p ∷ inserted es)) ≡ length (p ∷ es) + 1
      split Less is rest = omega arith
      split Equal is rest =
          let here : found stamp (p ∷ es) ≡ Some p.1 = cond-true (is_eq (nat_cmp stamp p.0)) _ _ (ap is_eq is) in
          absurd (cc)
      split Greater is rest =
          let gone : found stamp es ≡ None = sym (cond-false (is_eq (nat_cmp stamp p.0)) _ _ (ap is_eq is)) ∙ absent in
          omega (arith, rest gone)

  -- what was inserted is removed
  inserted_removed : (es : List (ℕ × Entry)) → found stamp es ≡ None → remove_entry (tree.is_at (nat_cmp stamp)) (inserted es) ≡ es
  inserted_removed [] absent = cond-true (is_eq (nat_cmp stamp stamp)) _ _ (is_at_itself stamp)
  inserted_removed (p ∷ es) absent = split (nat_cmp stamp p.0) refl (inserted_removed es)
    where
      split : (o : Ordering) → nat_cmp stamp p.0 ≡ o → (found stamp es ≡ None → remove_entry (tree.is_at (nat_cmp stamp)) (inserted es) ≡ es)
          → remove_entry (tree.is_at (nat_cmp stamp)) (match_ordering o ((stamp, e) ∷ p ∷ es) ((p.0, e) ∷ es) (p ∷ inserted es)) ≡ p ∷ es
      split Less is rest = cond-true (is_eq (nat_cmp stamp stamp)) _ _ (is_at_itself stamp)
      split Equal is rest =
          let here : found stamp (p ∷ es) ≡ Some p.1 = cond-true (is_eq (nat_cmp stamp p.0)) _ _ (ap is_eq is) in
          absurd (cc)
      split Greater is rest =
          let gone : found stamp es ≡ None = sym (cond-false (is_eq (nat_cmp stamp p.0)) _ _ (ap is_eq is)) ∙ absent in
          cond-false (is_eq (nat_cmp stamp p.0)) _ _ (ap is_eq is) ∙ ap (λ xs. p ∷ xs) (rest gone)

-- ---- entries in the order of their stamps are determined by what is found

module _ (p q : ℕ × Entry) (es fs : List (ℕ × Entry)) (ordered : AreOrdered (p ∷ es)) (others : AreOrdered (q ∷ fs)) (same : (stamp : ℕ) → found stamp (p ∷ es) ≡ found stamp (q ∷ fs)) where
  no_earlier : p.0 < q.0 → ⊥
  no_earlier below =
      let later : AreLater p.0 (q ∷ fs) = (is_less p.0 q.0 below, later_still p.0 q.0 fs below (sorted_head nat_cmp q.0 (keys_of fs) others)) in
      let absent = later_absent p.0 (q ∷ fs) later in
      let here = found_first p es in
      let alike = same p.0 in
      cc

  no_later : q.0 < p.0 → ⊥
  no_later below =
      let later : AreLater q.0 (p ∷ es) = (is_less q.0 p.0 below, later_still q.0 p.0 es below (sorted_head nat_cmp p.0 (keys_of es) ordered)) in
      let absent = later_absent q.0 (p ∷ es) later in
      let here = found_first q fs in
      let alike = same q.0 in
      cc

  same_stamp : p.0 ≡ q.0
  same_stamp = split (cases_order p.0 q.0)
    where
      split : (p.0 ≡ q.0) ⊎ ((p.0 < q.0) ⊎ (q.0 < p.0)) → p.0 ≡ q.0
      split (inl is) = is
      split (inr (inl below)) = absurd (no_earlier below)
      split (inr (inr above)) = absurd (no_later above)

  same_entry : p.1 ≡ q.1
  same_entry =
      let here : found q.0 (p ∷ es) ≡ Some p.1 = subst (λ s. found s (p ∷ es) ≡ Some p.1) same_stamp (found_first p es) in
      let there = found_first q fs in
      let alike = same q.0 in
      let entries : Some p.1 ≡ Some q.1 = sym here ∙ (alike ∙ there) in
      cc

  same_rest : (stamp : ℕ) → found stamp es ≡ found stamp fs
  same_rest stamp = split (cases_eq stamp p.0)
    where
      split : (stamp ≡ p.0) ⊎ (stamp ≡ p.0 → ⊥) → found stamp es ≡ found stamp fs
      split (inl is) =
          subst (λ s. found s es ≡ None) (sym is) (later_absent p.0 es (sorted_head nat_cmp p.0 (keys_of es) ordered))
          ∙ sym (subst (λ s. found s fs ≡ None) (sym (is ∙ same_stamp)) (later_absent q.0 fs (sorted_head nat_cmp q.0 (keys_of fs) others)))
      split (inr differs) =
          sym (found_later stamp p es differs) ∙ (same stamp ∙ found_later stamp q fs (λ is. differs (is ∙ sym same_stamp)))

same_entries : (es fs : List (ℕ × Entry)) → AreOrdered es → AreOrdered fs → ((stamp : ℕ) → found stamp es ≡ found stamp fs) → es ≡ fs
same_entries [] [] ordered others same = refl
same_entries [] (q ∷ fs) ordered others same = let here = found_first q fs in let alike = same q.0 in absurd (cc)
same_entries (p ∷ es) [] ordered others same = let here = found_first p es in let alike = same p.0 in absurd (cc)
same_entries (p ∷ es) (q ∷ fs) ordered others same =
    let rest = same_entries es fs (sorted_tail nat_cmp p.0 (keys_of es) ordered) (sorted_tail nat_cmp q.0 (keys_of fs) others) (same_rest p q es fs ordered others same) in
    λ i. (same_stamp p q es fs ordered others same i, same_entry p q es fs ordered others same i) ∷ rest i

-- ---- slots

-- the entry in a slot, with its stamp
abbrev pub stored : List (Option (ℕ × Entry)) → ℕ → Option (ℕ × Entry)
stored slots slot = get_or slots slot None

-- no two entries have the same stamp
abbrev pub AreApart : List (Option (ℕ × Entry)) → Type 0
AreApart slots = (slot other : ℕ) (p q : ℕ × Entry) → stored slots slot ≡ Some p → stored slots other ≡ Some q → p.0 ≡ q.0 → slot ≡ other

rest_apart : (first : Option (ℕ × Entry)) (slots : List (Option (ℕ × Entry))) → AreApart (first ∷ slots) → AreApart slots
rest_apart first slots apart slot other p q here there same =
    let slots_are : suc slot ≡ suc other = apart (suc slot) (suc other) p q here there same in
    omega (arith, slots_are)

pub by_stamp_ordered : (slots : List (Option (ℕ × Entry))) → AreOrdered (by_stamp slots)
by_stamp_ordered [] = ordered_none
by_stamp_ordered (None ∷ slots) = by_stamp_ordered slots
by_stamp_ordered (Some p ∷ slots) = inserted_ordered p.0 p.1 (by_stamp slots) (by_stamp_ordered slots)

-- an entry that is found is in a slot
pub slot_from_found : (slots : List (Option (ℕ × Entry))) (stamp : ℕ) (e : Entry) → found stamp (by_stamp slots) ≡ Some e → (slot : ℕ) × (stored slots slot ≡ Some (stamp, e))
slot_from_found [] stamp e is = absurd (cc)
slot_from_found (None ∷ slots) stamp e is = let later = slot_from_found slots stamp e is in (suc later.0, later.1)
slot_from_found (Some p ∷ slots) stamp e is = split (cases_eq stamp p.0) (λ there. slot_from_found slots stamp e there)
  where
    split : (stamp ≡ p.0) ⊎ (stamp ≡ p.0 → ⊥) → (found stamp (by_stamp slots) ≡ Some e → (slot : ℕ) × (stored slots slot ≡ Some (stamp, e))) → (slot : ℕ) × (stored (Some p ∷ slots) slot ≡ Some (stamp, e))
    split (inl same) rest =
        let here : found stamp (by_stamp (Some p ∷ slots)) ≡ Some p.1 = subst (λ s. found s (by_stamp (Some p ∷ slots)) ≡ Some p.1) (sym same) (inserted_found p.0 p.1 (by_stamp slots)) in
        let entries : Some p.1 ≡ Some e = sym here ∙ is in
        let entry : p.1 ≡ e = cc in
        (0, λ i. Some (sym same i, entry i))
    split (inr differs) rest =
        let later = rest (sym (inserted_other p.0 p.1 stamp differs (by_stamp slots)) ∙ is) in
        (suc later.0, later.1)

-- an entry in a slot is found, where stamps differ
pub found_from_slot : (slots : List (Option (ℕ × Entry))) → AreApart slots → (slot : ℕ) (p : ℕ × Entry) → stored slots slot ≡ Some p → found p.0 (by_stamp slots) ≡ Some p.1
found_from_slot [] apart slot p is = absurd (cc)
found_from_slot (None ∷ slots) apart zero p is = absurd (cc)
found_from_slot (None ∷ slots) apart (suc slot) p is = found_from_slot slots (rest_apart None slots apart) slot p is
found_from_slot (Some q ∷ slots) apart zero p is =
    let same : q ≡ p = cc in
    subst (λ (r : ℕ × Entry). found r.0 (by_stamp (Some q ∷ slots)) ≡ Some r.1) same (inserted_found q.0 q.1 (by_stamp slots))
found_from_slot (Some q ∷ slots) apart (suc slot) p is =
    inserted_other q.0 q.1 p.0 (λ same. omega (arith, apart (suc slot) 0 p q is refl same)) (by_stamp slots)
    ∙ found_from_slot slots (rest_apart (Some q) slots apart) slot p is

-- a stamp that no later slot has
first_absent : (p : ℕ × Entry) (slots : List (Option (ℕ × Entry))) → AreApart (Some p ∷ slots) → found p.0 (by_stamp slots) ≡ None
first_absent p slots apart = split (found p.0 (by_stamp slots)) refl
  where
    split : (o : Option Entry) → found p.0 (by_stamp slots) ≡ o → found p.0 (by_stamp slots) ≡ None
    split None is = is
    split (Some e) is = let later = slot_from_found slots p.0 e is in absurd (omega (arith, apart (suc later.0) 0 (p.0, e) p later.1 refl refl))

-- there are as many entries as slots that have one
pub by_stamp_length : (slots : List (Option (ℕ × Entry))) → AreApart slots → length (by_stamp slots) ≡ count_by is_some slots
by_stamp_length [] apart = refl
by_stamp_length (None ∷ slots) apart =
    omega (arith, by_stamp_length slots (rest_apart None slots apart), sum_by-cons (λ (o : Option (ℕ × Entry)). cond (is_some o) 1 0) None slots)
by_stamp_length (Some p ∷ slots) apart =
    inserted_length p.0 p.1 (by_stamp slots) (first_absent p slots apart)
    ∙ omega (arith, by_stamp_length slots (rest_apart (Some p) slots apart), sum_by-cons (λ (o : Option (ℕ × Entry)). cond (is_some o) 1 0) (Some p) slots)

-- stamps differ, if that of a new entry is new
pub taken_apart : (old new : List (Option (ℕ × Entry))) (slot : ℕ) (p : ℕ × Entry) → stored new slot ≡ Some p → ((other : ℕ) → (other ≡ slot → ⊥) → stored new other ≡ stored old other)
    → AreApart old → ((other : ℕ) (q : ℕ × Entry) → stored old other ≡ Some q → q.0 ≡ p.0 → ⊥) → AreApart new
taken_apart old new slot p is_taken others apart is_new one other q r here there same = split (cases_eq one slot) (cases_eq other slot)
  where
    same_stamps : (place : ℕ) (x : ℕ × Entry) → stored new place ≡ Some x → place ≡ slot → x.0 ≡ p.0
    same_stamps place x at is =
        let entries : Some x ≡ Some p = sym at ∙ subst (λ s. stored new s ≡ Some p) (sym is) is_taken in
        let entry : x ≡ p = cc in
        ap (λ (y : ℕ × Entry). y.0) entry

    split : (one ≡ slot) ⊎ (one ≡ slot → ⊥) → (other ≡ slot) ⊎ (other ≡ slot → ⊥) → one ≡ other
    split (inl first) (inl second) = first ∙ sym second
    split (inl first) (inr second) = absurd (is_new other r (sym (others other second) ∙ there) (sym same ∙ same_stamps one q here first))
    split (inr first) (inl second) = absurd (is_new one q (sym (others one first) ∙ here) (same ∙ same_stamps other r there second))
    split (inr first) (inr second) = apart one other q r (sym (others one first) ∙ here) (sym (others other second) ∙ there) same

-- one list of slots is another with an entry in a slot that was free
module _ (old new : List (Option (ℕ × Entry))) (slot : ℕ) (p : ℕ × Entry) (was_free : stored old slot ≡ None) (is_taken : stored new slot ≡ Some p)
    (others : (other : ℕ) → (other ≡ slot → ⊥) → stored new other ≡ stored old other) (apart : AreApart new) where
  was_apart : AreApart old
  was_apart one other q r here there same = apart one other q r (others one (used one q here) ∙ here) (others other (used other r there) ∙ there) same
    where
      used : (one : ℕ) (q : ℕ × Entry) → stored old one ≡ Some q → one ≡ slot → ⊥
      used one q here is = let free : stored old one ≡ None = subst (λ s. stored old s ≡ None) (sym is) was_free in cc

  found_other : (stamp : ℕ) → (stamp ≡ p.0 → ⊥) → (o before : Option Entry) → found stamp (by_stamp new) ≡ o → found stamp (by_stamp old) ≡ before → o ≡ before
  found_other stamp differs (Some e) before is was =
      let place = slot_from_found new stamp e is in
      let not_here : place.0 ≡ slot → ⊥ = λ same. elsewhere place.0 place.1 same in
      let there = found_from_slot old was_apart place.0 (stamp, e) (sym (others place.0 not_here) ∙ place.1) in
      sym there ∙ was
    where
      elsewhere : (other : ℕ) → stored new other ≡ Some (stamp, e) → other ≡ slot → ⊥
      elsewhere other at same =
          let taken : stored new other ≡ Some p = subst (λ s. stored new s ≡ Some p) (sym same) is_taken in
          let entries : Some (stamp, e) ≡ Some p = sym at ∙ taken in
          let entry : (stamp, e) ≡ p = cc in
          differs (ap (λ (r : ℕ × Entry). r.0) entry)
  found_other stamp differs None (Some e) is was =
      let place = slot_from_found old stamp e was in
      let not_here : place.0 ≡ slot → ⊥ = λ same. used place.0 place.1 same in
      let there = found_from_slot new apart place.0 (stamp, e) (others place.0 not_here ∙ place.1) in
      absurd (cc)
    where
      used : (one : ℕ) → stored old one ≡ Some (stamp, e) → one ≡ slot → ⊥
      used one here same = let free : stored old one ≡ None = subst (λ s. stored old s ≡ None) (sym same) was_free in cc
  found_other stamp differs None None is was = refl

  found_alike : (stamp : ℕ) → found stamp (by_stamp new) ≡ found stamp (tree.insert_entry nat_cmp (by_stamp old) p.0 p.1)
  found_alike stamp = split (cases_eq stamp p.0)
    where
      split : (stamp ≡ p.0) ⊎ (stamp ≡ p.0 → ⊥) → found stamp (by_stamp new) ≡ found stamp (tree.insert_entry nat_cmp (by_stamp old) p.0 p.1)
      split (inl same) =
          subst (λ s. found s (by_stamp new) ≡ Some p.1) (sym same) (found_from_slot new apart slot p is_taken)
          ∙ sym (subst (λ s. found s (tree.insert_entry nat_cmp (by_stamp old) p.0 p.1) ≡ Some p.1) (sym same) (inserted_found p.0 p.1 (by_stamp old)))
      split (inr differs) =
          found_other stamp differs (found stamp (by_stamp new)) (found stamp (by_stamp old)) refl refl
          ∙ sym (inserted_other p.0 p.1 stamp differs (by_stamp old))

  -- the entry that the slot has is inserted
  pub by_stamp_taken : by_stamp new ≡ tree.insert_entry nat_cmp (by_stamp old) p.0 p.1
  by_stamp_taken = same_entries (by_stamp new) (tree.insert_entry nat_cmp (by_stamp old) p.0 p.1) (by_stamp_ordered new) (inserted_ordered p.0 p.1 (by_stamp old) (by_stamp_ordered old)) found_alike

  not_before : found p.0 (by_stamp old) ≡ None
  not_before = split (found p.0 (by_stamp old)) refl
    where
      split : (o : Option Entry) → found p.0 (by_stamp old) ≡ o → found p.0 (by_stamp old) ≡ None
      split None is = is
      split (Some e) is =
          let place = slot_from_found old p.0 e is in
          absurd (used place.0 e place.1)
        where
          used : (one : ℕ) (x : Entry) → stored old one ≡ Some (p.0, x) → ⊥
          used one x here = split_slot (cases_eq one slot)
            where
              split_slot : (one ≡ slot) ⊎ (one ≡ slot → ⊥) → ⊥
              split_slot (inl same) = let free : stored old one ≡ None = subst (λ s. stored old s ≡ None) (sym same) was_free in cc
              split_slot (inr differs) = differs (apart one slot (p.0, x) p (others one differs ∙ here) is_taken refl)

  -- without the entry of the slot, the entries are those before
  pub by_stamp_freed : remove_entry (tree.is_at (nat_cmp p.0)) (by_stamp new) ≡ by_stamp old
  by_stamp_freed = ap (remove_entry (tree.is_at (nat_cmp p.0))) by_stamp_taken ∙ inserted_removed p.0 p.1 (by_stamp old) not_before
