-- The steps of writing a text: a set has its turn, the last one had it, or one is settled ahead of its turn.
use Rattle.std.proofs.Common.{◌≡◌, ◌∙◌, ℕ, Bool, true, false, cond, not, ◌||◌, List, [], ◌∷◌, ◌++◌, map, refl, sym, ap, subst, Option, Some, None, Ordering, Less, Equal, Greater}
use Rattle.std.specs.Prelude.{string_bytes}
use Rattle.std.specs.BTreeSet as keys
use Rattle.std.specs.Cmp.{Equal-is, eq_by_cmp_equiv, tied_itself}
use Rattle.std.specs.List.{list_any, AllByRecursion}
use Rattle.std.specs.List.Sorted.{IsStrictlySortedBy}
use Rattle.std.specs.Ordering.{is_eq, is_gt, is_lt, ordering_reverse}
use Rattle.dns_wire.specs.declared.codes.record_type.RecordType.{RecordType}
use Rattle.dns_names.specs.Name.{DomainName}
use Rattle.dns_records.specs.RecordSet.{RecordSetValue}
use Rattle.dns_updates.specs.Keys.{Place, owner_code, place_cmp, type_code}
use Rattle.dns_updates.proofs.PlaceLaws.{keys_of_place, place_exact, place_total}
use Rattle.dns_zone.specs.Lookup.{AreSetsOf}
use Rattle.dns_zone.specs.Printed.{set_lines}
use Rattle.dns_zone.specs.Rows.{Key, ZoneContent, key, set_key}
use Rattle.dns_zone.specs.Sets.{set_at, set_place, sets_after, AreInOrder}
use Rattle.dns_zone.proofs.KeptLaws.{tied_key}
use Rattle.dns_zone.proofs.RowLaws.{key_total, tied}
use Rattle.dns_durable.specs.Draft.{Grows, IsBetween, IsDraftOf, IsPart, Settled, is_settled, place_of}
use Rattle.dns_durable.specs.declared.draft.Draft.{Draft}
use Rattle.dns_durable.specs.internal.Drafting.{GoesOn, IsBegun, Passes, Writes, WritesUnless}
use Rattle.dns_durable.specs.zone_texts.Stated.{IsStatedSet}
use Rattle.dns_durable.proofs.BetweenLaws.{each, first_settled, found_all, none_more, one_more, place_of_key, place_of_set, place_of_tied, true_false}
use Rattle.dns_durable.proofs.PartLaws.{IsGood, first_part, good_set, part_more}

-- ---- the order of places

less_of : (r : Ordering) → is_lt r ≡ true → r ≡ Less
less_of Less e = refl
less_of Equal e = absurd (cc)
less_of Greater e = absurd (cc)

greater_of : (r : Ordering) → is_gt r ≡ true → r ≡ Greater
greater_of Less e = absurd (cc)
greater_of Equal e = absurd (cc)
greater_of Greater e = refl

-- what comes after a place is greater, and conversely
turned : (p q : Place) → is_lt (place_cmp p q) ≡ is_gt (place_cmp q p)
turned p q = by (place_cmp q p) (place_total.antisymm p q)
  where
    by : (r : Ordering) → place_cmp p q ≡ ordering_reverse r → is_lt (place_cmp p q) ≡ is_gt r
    by Less e = ap is_lt e
    by Equal e = ap is_lt e
    by Greater e = ap is_lt e

greater_trans : (p q r : Place) → place_cmp p q ≡ Greater → place_cmp q r ≡ Greater → place_cmp p r ≡ Greater
greater_trans p q r f g =
    place_total.antisymm p r
    ∙ ap ordering_reverse (place_total.trans r q p (place_total.antisymm r q ∙ ap ordering_reverse g) (place_total.antisymm q p ∙ ap ordering_reverse f))

not_after_itself : (p : Place) → is_gt (place_cmp p p) ≡ false
not_after_itself p = ap is_gt (tied_itself place_total p)

tied_self : (s : RecordSetValue) → tied (set_key s) s ≡ true
tied_self s = (eq_by_cmp_equiv key_total).refl (set_key s)

-- the first of the sets after a place is the only one up to its own place
pub record IsNext (p : Place) (sets : List RecordSetValue) (s : RecordSetValue) : Type 0 where
  pub there : set_at sets (set_key s) ≡ Some s
  pub after : is_lt (place_cmp p (set_place s)) ≡ true
  pub only : (k : Key) (t : RecordSetValue) → set_at sets k ≡ Some t → is_lt (place_cmp p (set_place t)) ≡ true → is_gt (place_cmp (set_place t) (set_place s)) ≡ false
      → set_place t ≡ set_place s

later_places : (x : RecordSetValue) (xs : List RecordSetValue) → AllByRecursion (λ q. place_cmp (set_place x) q ≡ Less) (map set_place xs) → AllByRecursion (λ t. place_cmp (set_place x) (set_place t) ≡ Less) xs
later_places x [] all = tt
later_places x (y ∷ ys) all = (all.0, later_places x ys all.1)

first_of : (x s : RecordSetValue) (rest more : List RecordSetValue) → ◌≡◌ {A = List RecordSetValue} (x ∷ rest) (s ∷ more) → x ≡ s
first_of x s rest more e = cc

some_is : (x t : RecordSetValue) → ◌≡◌ {A = Option RecordSetValue} (Some x) (Some t) → x ≡ t
some_is x t e = cc

next_is : (p : Place) (sets : List RecordSetValue) (s : RecordSetValue) (rest : List RecordSetValue) → AreInOrder sets → sets_after p sets ≡ s ∷ rest → IsNext p sets s
unfolding IsStrictlySortedBy
next_is p [] s rest sorted e = absurd (cc)
next_is p (x ∷ xs) s rest sorted e = by (is_lt (place_cmp p (set_place x))) refl e (next_is p xs s rest sorted.1)
  where
    later : AllByRecursion (λ t. place_cmp (set_place x) (set_place t) ≡ Less) xs
    later = later_places x xs sorted.0

    first : is_lt (place_cmp p (set_place x)) ≡ true → IsNext p (x ∷ xs) x
    first after = record {
      there = ap (λ (b : Bool). cond b (Some x) (set_at xs (set_key x))) (tied_self x);
      after = after;
      only = λ k t found behind up_to. only k t found up_to (tied k x) refl;
    }
      where
        only : (k : Key) (t : RecordSetValue) → set_at (x ∷ xs) k ≡ Some t → is_gt (place_cmp (set_place t) (set_place x)) ≡ false → (b : Bool) → tied k x ≡ b → set_place t ≡ set_place x
        only k t found up_to true h = ap set_place (sym (some_is x t (sym (ap (λ (b : Bool). cond b (Some x) (set_at xs k)) h) ∙ found)))
        only k t found up_to false h =
            let in_rest : set_at xs k ≡ Some t = sym (ap (λ (b : Bool). cond b (Some x) (set_at xs k)) h) ∙ found in
            let less = (found_all (λ u. place_cmp (set_place x) (set_place u) ≡ Less) k xs t later in_rest).0 in
            true_false (is_gt (place_cmp (set_place t) (set_place x))) (sym (turned (set_place x) (set_place t)) ∙ ap is_lt less) up_to

    further : is_lt (place_cmp p (set_place x)) ≡ false → IsNext p xs s → IsNext p (x ∷ xs) s
    further before next = record {
      there = ap (λ (b : Bool). cond b (Some x) (set_at xs (set_key s))) (untied (tied (set_key s) x) refl) ∙ next.there;
      after = next.after;
      only = λ k t found behind up_to. only k t found behind up_to (tied k x) refl;
    }
      where
        less : place_cmp (set_place x) (set_place s) ≡ Less
        less = (found_all (λ u. place_cmp (set_place x) (set_place u) ≡ Less) (set_key s) xs s later next.there).0

        untied : (b : Bool) → tied (set_key s) x ≡ b → b ≡ false
        untied true h =
            let same : set_place s ≡ set_place x = sym (place_of_set s) ∙ place_of_tied (set_key s) x h in
            true_false (is_lt (place_cmp (set_place x) (set_place s))) (ap is_lt less)
            (ap (λ (q : Place). is_lt (place_cmp (set_place x) q)) same ∙ ap is_lt (tied_itself place_total (set_place x)))
        untied false h = refl

        only : (k : Key) (t : RecordSetValue) → set_at (x ∷ xs) k ≡ Some t → is_lt (place_cmp p (set_place t)) ≡ true → is_gt (place_cmp (set_place t) (set_place s)) ≡ false
            → (b : Bool) → tied k x ≡ b → set_place t ≡ set_place s
        only k t found behind up_to true h =
            let same : x ≡ t = some_is x t (sym (ap (λ (b : Bool). cond b (Some x) (set_at xs k)) h) ∙ found) in
            true_false (is_lt (place_cmp p (set_place t))) behind (ap (λ (u : RecordSetValue). is_lt (place_cmp p (set_place u))) (sym same) ∙ before)
        only k t found behind up_to false h = next.only k t (sym (ap (λ (b : Bool). cond b (Some x) (set_at xs k)) h) ∙ found) behind up_to

    by : (b : Bool) → is_lt (place_cmp p (set_place x)) ≡ b → cond b (x ∷ sets_after p xs) (sets_after p xs) ≡ s ∷ rest → (sets_after p xs ≡ s ∷ rest → IsNext p xs s) → IsNext p (x ∷ xs) s
    by true h f more = subst (λ (u : RecordSetValue). IsNext p (x ∷ xs) u) (first_of x s (sets_after p xs) rest f) (first h)
    by false h f more = further h (more f)

-- no set is after a place
none_after : (p : Place) (sets : List RecordSetValue) (k : Key) (t : RecordSetValue) → sets_after p sets ≡ [] → set_at sets k ≡ Some t → is_lt (place_cmp p (set_place t)) ≡ false
none_after p [] k t none found = absurd (cc)
none_after p (x ∷ xs) k t none found = by (is_lt (place_cmp p (set_place x))) refl none (tied k x) refl (none_after p xs k t)
  where
    by : (b : Bool) → is_lt (place_cmp p (set_place x)) ≡ b → cond b (x ∷ sets_after p xs) (sets_after p xs) ≡ [] → (c : Bool) → tied k x ≡ c
        → (sets_after p xs ≡ [] → set_at xs k ≡ Some t → is_lt (place_cmp p (set_place t)) ≡ false) → is_lt (place_cmp p (set_place t)) ≡ false
    by true h f c e more = absurd (cc)
    by false h f true e more =
        let same : x ≡ t = some_is x t (sym (ap (λ (b : Bool). cond b (Some x) (set_at xs k)) e) ∙ found) in
        ap (λ (u : RecordSetValue). is_lt (place_cmp p (set_place u))) (sym same) ∙ h
    by false h f false e more = more f (sym (ap (λ (b : Bool). cond b (Some x) (set_at xs k)) e) ∙ found)

-- ---- what is settled

-- a place is settled by these parts of a draft
abbrev pub settled_by : Bool → Place → keys.BTreeSet Place → Settled
settled_by whole turn ahead p = whole || (not (is_gt (place_cmp p turn)) || keys.contains place_cmp ahead p)

or_true : (a b : Bool) → b ≡ true → (a || b) ≡ true
or_true true b e = refl
or_true false b e = e

or_false : (a b : Bool) → (a || b) ≡ false → (a ≡ false) × (b ≡ false)
or_false true b e = absurd (cc)
or_false false b e = (refl, e)

not_false : (b : Bool) → not b ≡ false → b ≡ true
not_false true e = refl
not_false false e = absurd (cc)

or_first : (a b : Bool) → (a || b) ≡ true → b ≡ false → a ≡ true
or_first true b e f = refl
or_first false b e f = true_false b e f

-- ---- a set has its turn

module _ (turn : Place) (ahead : keys.BTreeSet Place) (sets : List RecordSetValue) (s : RecordSetValue) (next : IsNext turn sets s) where
  abbrev old : Settled
  old = settled_by false turn ahead

  abbrev new : Settled
  new = settled_by false (set_place s) ahead

  turn_grows : Grows old new
  turn_grows p e = by (is_gt (place_cmp p (set_place s))) refl
    where
      by : (b : Bool) → is_gt (place_cmp p (set_place s)) ≡ b → (not b || keys.contains place_cmp ahead p) ≡ true
      by false h = refl
      by true h = or_later (not (is_gt (place_cmp p turn))) (keys.contains place_cmp ahead p) e (ap not (greater_too h))
        where
          or_later : (a b : Bool) → (a || b) ≡ true → a ≡ false → b ≡ true
          or_later true b e f = absurd (cc)
          or_later false b e f = e

          -- what is after the set is after the place before it
          greater_too : is_gt (place_cmp p (set_place s)) ≡ true → is_gt (place_cmp p turn) ≡ true
          greater_too f =
              ap is_gt (greater_trans p (set_place s) turn (greater_of _ f) (greater_of _ (sym (turned turn (set_place s)) ∙ next.after)))

  turn_only : (k : Key) (t : RecordSetValue) → set_at sets k ≡ Some t → old (set_place t) ≡ false → new (set_place t) ≡ true → set_place t ≡ set_place s
  turn_only k t found un settles =
      let parts = or_false (not (is_gt (place_cmp (set_place t) turn))) (keys.contains place_cmp ahead (set_place t)) un in
      next.only k t found (turned turn (set_place t) ∙ not_false _ parts.0)
      (not_true _ (or_first (not (is_gt (place_cmp (set_place t) (set_place s)))) (keys.contains place_cmp ahead (set_place t)) settles parts.1))
    where
      not_true : (b : Bool) → not b ≡ true → b ≡ false
      not_true true e = absurd (cc)
      not_true false e = refl

  turn_settles : new (set_place s) ≡ true
  turn_settles = ap (λ (b : Bool). not b || keys.contains place_cmp ahead (set_place s)) (not_after_itself (set_place s))

  turn_unsettled : keys.contains place_cmp ahead (set_place s) ≡ false → old (set_place s) ≡ false
  turn_unsettled none =
      let later : is_gt (place_cmp (set_place s) turn) ≡ true = sym (turned turn (set_place s)) ∙ next.after in
      λ i. not (later i) || none i

  turn_none : keys.contains place_cmp ahead (set_place s) ≡ true → (k : Key) (t : RecordSetValue) → set_at sets k ≡ Some t → old (set_place t) ≡ false → new (set_place t) ≡ false
  turn_none there k t found un = by (new (set_place t)) refl
    where
      by : (b : Bool) → new (set_place t) ≡ b → b ≡ false
      by true e =
          let same : set_place t ≡ set_place s = turn_only k t found un e in
          true_false (old (set_place t)) (ap old same ∙ or_true (not (is_gt (place_cmp (set_place s) turn))) (keys.contains place_cmp ahead (set_place s)) there) un
      by false e = refl

-- a draft in which one set more is settled
pub pass_draft : (base zone : ZoneContent) (d new : Draft) (sets : List RecordSetValue) (s : RecordSetValue) (rest : List RecordSetValue) → AreSetsOf zone sets
    → sets_after d.place sets ≡ s ∷ rest → d.is_whole ≡ false → Passes s d new → IsDraftOf base zone d → IsDraftOf base zone new
pass_draft base zone d new sets s rest are first unfinished passes draft = by (keys.contains place_cmp d.ahead (set_place s)) refl passes.writes
  where
    next : IsNext d.place sets s
    next = next_is d.place sets s rest are.ordered first

    from : Settled
    from = settled_by false d.place d.ahead

    to : Settled
    to = settled_by false (set_place s) d.ahead

    from_is : is_settled d ≡ from
    from_is = λ i p. unfinished i || (not (is_gt (place_cmp p d.place)) || keys.contains place_cmp d.ahead p)

    to_is : to ≡ is_settled new
    to_is = sym (λ i p. (passes.whole_is ∙ unfinished) i || (not (is_gt (place_cmp p (passes.place_is i))) || keys.contains place_cmp (passes.ahead_is i) p))

    between : IsBetween base.rows zone.rows from draft.sets
    between = subst (λ (settled : Settled). IsBetween base.rows zone.rows settled draft.sets) from_is draft.between

    by : (b : Bool) → keys.contains place_cmp d.ahead (set_place s) ≡ b → WritesUnless b s d new → IsDraftOf base zone new
    by true there same = record {
      sets = draft.sets;
      part = subst (λ (t : List ℕ). IsPart base draft.sets t) (sym same) draft.part;
      between = subst (λ (settled : Settled). IsBetween base.rows zone.rows settled draft.sets) to_is
          (none_more base.rows zone.rows from to draft.sets sets are.rows (turn_grows d.place d.ahead sets s next) (turn_none d.place d.ahead sets s next there) between);
      origin_is = draft.origin_is;
    }
    by false lacks written = record {
      sets = draft.sets ++ s ∷ [];
      part = subst (λ (t : List ℕ). IsPart base (draft.sets ++ s ∷ []) t) (sym written.0)
          (part_more base from draft.sets (string_bytes d.text.text) s draft.part between.all (turn_unsettled d.place d.ahead sets s next lacks)
          (subst (λ (o : DomainName). IsGood o s) draft.origin_is (good_set zone sets (set_key s) s are next.there)) written.1);
      between = subst (λ (settled : Settled). IsBetween base.rows zone.rows settled (draft.sets ++ s ∷ [])) to_is
          (one_more base.rows zone.rows from to draft.sets sets s are.rows (turn_grows d.place d.ahead sets s next) next.there
          (turn_unsettled d.place d.ahead sets s next lacks) (turn_settles d.place d.ahead sets s next) (turn_only d.place d.ahead sets s next) between);
      origin_is = draft.origin_is;
    }

-- ---- the last set had its turn

-- a draft whose last set had its turn is whole
pub whole_draft : (base zone : ZoneContent) (d new : Draft) (sets : List RecordSetValue) → AreSetsOf zone sets → sets_after d.place sets ≡ [] → new.is_whole ≡ true
    → string_bytes new.text.text ≡ string_bytes d.text.text → IsDraftOf base zone d → IsDraftOf base zone new
whole_draft base zone d new sets are none whole text_is draft = record {
  sets = draft.sets;
  part = subst (λ (t : List ℕ). IsPart base draft.sets t) (sym text_is) draft.part;
  between = none_more base.rows zone.rows (is_settled d) (is_settled new) draft.sets sets are.rows (λ p e. all p) (λ k t found un. absurd_at k t found un) draft.between;
  origin_is = draft.origin_is;
}
  where
    all : (p : Place) → is_settled new p ≡ true
    all p = ap (λ (b : Bool). b || (not (is_gt (place_cmp p new.place)) || keys.contains place_cmp new.ahead p)) whole

    absurd_at : (k : Key) (t : RecordSetValue) → set_at sets k ≡ Some t → is_settled d (set_place t) ≡ false → is_settled new (set_place t) ≡ false
    absurd_at k t found un =
        let parts = or_false d.is_whole (not (is_gt (place_cmp (set_place t) d.place)) || keys.contains place_cmp d.ahead (set_place t)) un in
        let later = or_false (not (is_gt (place_cmp (set_place t) d.place))) (keys.contains place_cmp d.ahead (set_place t)) parts.1 in
        true_false (is_lt (place_cmp d.place (set_place t))) (turned d.place (set_place t) ∙ not_false _ later.0) (none_after d.place sets k t none found)

-- ---- a set is settled ahead of its turn

-- one place more is settled
abbrev pub IsSettledToo : Place → Draft → Draft → Type 0
IsSettledToo p d new = (q : Place) → is_settled new q ≡ cond (is_eq (place_cmp p q)) true (is_settled d q)

module _ (p : Place) (d new : Draft) (too : IsSettledToo p d new) where
  pub too_grows : Grows (is_settled d) (is_settled new)
  too_grows q e = too q ∙ by (is_eq (place_cmp p q))
    where
      by : (b : Bool) → cond b true (is_settled d q) ≡ true
      by true = refl
      by false = e

  pub too_settles : is_settled new p ≡ true
  too_settles = too p ∙ ap (λ (b : Bool). cond b true (is_settled d p)) (ap is_eq (tied_itself place_total p))

  too_only : (q : Place) → is_settled d q ≡ false → is_settled new q ≡ true → q ≡ p
  too_only q un e = by (is_eq (place_cmp p q)) refl (sym (too q) ∙ e)
    where
      by : (b : Bool) → is_eq (place_cmp p q) ≡ b → cond b true (is_settled d q) ≡ true → q ≡ p
      by true h f = sym (place_exact p q ((Equal-is (place_cmp p q)).0 h))
      by false h f = true_false (is_settled d q) f un

-- there is no such set
pub settle_none : (base zone : ZoneContent) (d new : Draft) (sets : List RecordSetValue) (labels : List (List ℕ)) (record_type : RecordType) → AreSetsOf zone sets
    → set_at sets (key labels record_type) ≡ None → IsSettledToo (owner_code labels, type_code record_type) d new
    → string_bytes new.text.text ≡ string_bytes d.text.text → IsDraftOf base zone d → IsDraftOf base zone new
settle_none base zone d new sets labels record_type are none too text_is draft = record {
  sets = draft.sets;
  part = subst (λ (t : List ℕ). IsPart base draft.sets t) (sym text_is) draft.part;
  between = none_more base.rows zone.rows (is_settled d) (is_settled new) draft.sets sets are.rows (too_grows p d new too) (λ k t found un. still k t found un (is_settled new (set_place t)) refl) draft.between;
  origin_is = draft.origin_is;
}
  where
    p : Place
    p = (owner_code labels, type_code record_type)

    still : (k : Key) (t : RecordSetValue) → set_at sets k ≡ Some t → is_settled d (set_place t) ≡ false → (b : Bool) → is_settled new (set_place t) ≡ b → b ≡ false
    still k t found un true e =
        let same : set_key t ≡ key labels record_type = keys_of_place t.name.labels labels t.record_type record_type (too_only p d new too (set_place t) un e) in
        let at : k ≡ set_key t = sym (tied_key k (set_key t) (found_all (λ (u : RecordSetValue). Unit {0}) k sets t (each sets) found).1) in
        let never : ◌≡◌ {A = Option RecordSetValue} (Some t) None = sym found ∙ ap (set_at sets) (at ∙ same) ∙ none in
        absurd (cc)
    still k t found un false e = refl

-- the set is written
pub settle_some : (base zone : ZoneContent) (d new : Draft) (sets : List RecordSetValue) (labels : List (List ℕ)) (record_type : RecordType) (s : RecordSetValue) → AreSetsOf zone sets
    → set_at sets (key labels record_type) ≡ Some s → IsSettledToo (owner_code labels, type_code record_type) d new → is_settled d (owner_code labels, type_code record_type) ≡ false
    → string_bytes new.text.text ≡ string_bytes d.text.text ++ set_lines s → IsStatedSet s → IsDraftOf base zone d → IsDraftOf base zone new
settle_some base zone d new sets labels record_type s are found too un text_is stated draft = record {
  sets = draft.sets ++ s ∷ [];
  part = subst (λ (t : List ℕ). IsPart base (draft.sets ++ s ∷ []) t) (sym text_is)
      (part_more base (is_settled d) draft.sets (string_bytes d.text.text) s draft.part draft.between.all here
      (subst (λ (o : DomainName). IsGood o s) draft.origin_is (good_set zone sets (set_key s) s are there)) stated);
  between = one_more base.rows zone.rows (is_settled d) (is_settled new) draft.sets sets s are.rows (too_grows p d new too) there here
      (ap (is_settled new) place ∙ too_settles p d new too) (λ k t at old new_is. too_only p d new too (set_place t) old new_is ∙ sym place) draft.between;
  origin_is = draft.origin_is;
}
  where
    p : Place
    p = (owner_code labels, type_code record_type)

    key_is : set_key s ≡ key labels record_type
    key_is = tied_key (key labels record_type) (set_key s) (found_all (λ (u : RecordSetValue). Unit {0}) (key labels record_type) sets s (each sets) found).1

    there : set_at sets (set_key s) ≡ Some s
    there = ap (set_at sets) key_is ∙ found

    place : set_place s ≡ p
    place = sym (place_of_set s) ∙ ap place_of key_is ∙ place_of_key labels record_type

    here : is_settled d (set_place s) ≡ false
    here = ap (is_settled d) place ∙ un

-- ---- what a turn leaves

written_unless : (b : Bool) (set : RecordSetValue) (d new : Draft) → b ≡ false → string_bytes new.text.text ≡ string_bytes d.text.text ++ set_lines set → IsStatedSet set → WritesUnless b set d new
written_unless true set d new e text stated = absurd (cc)
written_unless false set d new e text stated = (text, stated)

kept_unless : (b : Bool) (set : RecordSetValue) (d new : Draft) → b ≡ true → string_bytes new.text.text ≡ string_bytes d.text.text → WritesUnless b set d new
kept_unless true set d new e text = text
kept_unless false set d new e text = absurd (cc)

pub passes_written : (set : RecordSetValue) (d mid : Draft) (p : Place) (b : Bool) → p ≡ set_place set → b ≡ keys.contains place_cmp d.ahead p → b ≡ false → Writes set d mid
    → Passes set d (record mid { place = p })
passes_written set d mid p b at is lacks writes = record {
  writes = written_unless (keys.contains place_cmp d.ahead (set_place set)) set d (record mid { place = p })
      (ap (keys.contains place_cmp d.ahead) (sym at) ∙ sym is ∙ lacks) writes.text_is writes.stated;
  place_is = at;
  whole_is = writes.whole_is;
  ahead_is = writes.ahead_is;
  carried_is = writes.carried_is;
}

pub passes_ahead : (set : RecordSetValue) (d : Draft) (p : Place) (b : Bool) → p ≡ set_place set → b ≡ keys.contains place_cmp d.ahead p → b ≡ true → Passes set d (record d { place = p })
passes_ahead set d p b at is has = record {
  writes = kept_unless (keys.contains place_cmp d.ahead (set_place set)) set d (record d { place = p })
      (ap (keys.contains place_cmp d.ahead) (sym at) ∙ sym is ∙ has) refl;
  place_is = at;
  whole_is = refl;
  ahead_is = refl;
  carried_is = refl;
}

-- ---- what is settled by a key

or_cond : (a b e c : Bool) → (a || (b || cond e true c)) ≡ cond e true (a || (b || c))
or_cond true b true c = refl
or_cond true b false c = refl
or_cond false true true c = refl
or_cond false true false c = refl
or_cond false false true c = refl
or_cond false false false c = refl

inserted_too : (p k : Place) (d later : Draft) → k ≡ p → later.is_whole ≡ d.is_whole → later.place ≡ d.place
    → ((q : Place) → keys.contains place_cmp later.ahead q ≡ cond (is_eq (place_cmp k q)) true (keys.contains place_cmp d.ahead q)) → IsSettledToo p d later
inserted_too p k d later at whole place ahead q =
    (λ i. whole i || (not (is_gt (place_cmp q (place i))) || ahead q i))
    ∙ or_cond d.is_whole (not (is_gt (place_cmp q d.place))) (is_eq (place_cmp k q)) (keys.contains place_cmp d.ahead q)
    ∙ ap (λ (x : Place). cond (is_eq (place_cmp x q)) true (is_settled d q)) at

module _ (zone : ZoneContent) (sets : List RecordSetValue) (labels : List (List ℕ)) (record_type : RecordType) (d : Draft) (k : Place) (ahead : keys.BTreeSet Place)
    (are : AreSetsOf zone sets) (at : k ≡ (owner_code labels, type_code record_type)) (un : is_settled d k ≡ false)
    (inserted : (q : Place) → keys.contains place_cmp ahead q ≡ cond (is_eq (place_cmp k q)) true (keys.contains place_cmp d.ahead q)) where
  some_too : (s : RecordSetValue) (new : Draft) → Writes s (record d { ahead = ahead }) new → IsSettledToo (owner_code labels, type_code record_type) d new
  some_too s new writes =
      inserted_too (owner_code labels, type_code record_type) k d new at writes.whole_is writes.place_is (λ q. ap (λ a. keys.contains place_cmp a q) writes.ahead_is ∙ inserted q)

  none_too : IsSettledToo (owner_code labels, type_code record_type) d (record d { ahead = ahead })
  none_too = inserted_too (owner_code labels, type_code record_type) k d (record d { ahead = ahead }) at refl refl inserted

  pub settled_some : (s : RecordSetValue) (new : Draft) → set_at sets (key labels record_type) ≡ Some s → Writes s (record d { ahead = ahead }) new → GoesOn zone d new
  settled_some s new found writes = record {
    draft = λ base draft. settle_some base zone d new sets labels record_type s are found (some_too s new writes) (ap (is_settled d) (sym at) ∙ un) writes.text_is writes.stated draft;
    grows = too_grows (owner_code labels, type_code record_type) d new (some_too s new writes);
    carried_is = writes.carried_is;
  }

  pub settled_there : (s : RecordSetValue) (new : Draft) → Writes s (record d { ahead = ahead }) new → is_settled new (owner_code labels, type_code record_type) ≡ true
  settled_there s new writes = too_settles (owner_code labels, type_code record_type) d new (some_too s new writes)

  pub settled_none : set_at sets (key labels record_type) ≡ None → GoesOn zone d (record d { ahead = ahead })
  settled_none none = record {
    draft = λ base draft. settle_none base zone d (record d { ahead = ahead }) sets labels record_type are none none_too refl draft;
    grows = too_grows (owner_code labels, type_code record_type) d (record d { ahead = ahead }) none_too;
    carried_is = refl;
  }

  pub settled_absent : is_settled (record d { ahead = ahead }) (owner_code labels, type_code record_type) ≡ true
  settled_absent = too_settles (owner_code labels, type_code record_type) d (record d { ahead = ahead }) none_too

-- ---- the beginning

later_unsettled : (s : RecordSetValue) (more : List RecordSetValue) (ahead : keys.BTreeSet Place) → ahead.keys ≡ [] → AllByRecursion (λ q. place_cmp (set_place s) q ≡ Less) (map set_place more)
    → AllByRecursion (λ t. settled_by false (set_place s) ahead (set_place t) ≡ false) more
later_unsettled s [] ahead none all = tt
later_unsettled s (t ∷ more) ahead none all = (
  (λ i. not (is_gt_after i) || list_any (λ k. is_eq (place_cmp (set_place t) k)) (none i)),
  later_unsettled s more ahead none all.1,
)
  where
    is_gt_after : is_gt (place_cmp (set_place t) (set_place s)) ≡ true
    is_gt_after = sym (turned (set_place s) (set_place t)) ∙ ap is_lt all.0

-- a draft that has the first set is one of its zone
pub begun_draft : (zone : ZoneContent) (d : Draft) (sets : List RecordSetValue) (s : RecordSetValue) (more : List RecordSetValue) → AreSetsOf zone sets → sets ≡ s ∷ more
    → IsBegun zone.origin s d → IsDraftOf zone zone d
unfolding IsStrictlySortedBy
begun_draft zone d sets s more are is begun =
    let these : AreSetsOf zone (s ∷ more) = subst (λ (l : List RecordSetValue). AreSetsOf zone l) is are in
    let from : Settled = settled_by false (set_place s) d.ahead in
    let settled_is : from ≡ is_settled d = sym (λ i p. begun.unfinished i || (not (is_gt (place_cmp p (begun.place_is i))) || keys.contains place_cmp d.ahead p)) in
    record {
      sets = s ∷ [];
      part = subst (λ (t : List ℕ). IsPart zone (s ∷ []) t) (sym begun.text_is) (first_part zone s more these begun.stated);
      between = subst (λ (settled : Settled). IsBetween zone.rows zone.rows settled (s ∷ [])) settled_is
          (first_settled zone.rows from s more these.rows (ap (λ (b : Bool). not b || keys.contains place_cmp d.ahead (set_place s)) (not_after_itself (set_place s)))
          (later_unsettled s more d.ahead begun.none_ahead these.ordered.0));
      origin_is = refl;
    }
