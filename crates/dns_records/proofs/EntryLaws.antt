-- The entries of the data that stands in places, after a place is added, filled or emptied.
use Rattle.std.proofs.Common.{◌≡◌, ◌<◌, ◌+◌, ◌⊎◌, inl, inr, ℕ, Bool, true, false, cond, List, [], ◌∷◌, ◌++◌, length, slice_get, take, get_or, length-take-le, refl, sym, ap, subst, ◌∙◌, arith, Option, Some, None, suc, zero, is_some}
use Rattle.std.proofs.lemmas.List.{take_more}
use Rattle.std.specs.Prelude.{position, slice_set, IfSome}
use Rattle.std.specs.BTreeMap as tree
use Rattle.std.specs.BTreeMap.{BTreeMap}
use Rattle.std.specs.Map.{lookup}
use Rattle.std.specs.Ordering.{is_eq}
use Rattle.std.specs.declared.cmp.Ordering.{Ordering}
use Rattle.std.specs.declared.cmp.Ordering.TheVariants.{Less, Equal, Greater}
use Rattle.dns_data.specs.declared.rdata.RData.{RData}
use Rattle.dns_data.specs.rdata.{same_data}
use Rattle.dns_data.specs.rdata.Order.{data_cmp}
use Rattle.dns_data.specs.internal.DataOrder.{data_cmp-total, data_tie}
use Rattle.dns_data.specs.contracts.rdata.RDataEq.TheImpl.Laws.{laws-law}
use Rattle.dns_records.specs.Record.{Record}
use Rattle.dns_records.specs.edits.Places.{has_data, is_place_of, HasPlaces, IsIndexOf}
use Rattle.dns_records.specs.declared.edits.data_places.DataPlaces.{DataPlaces}
use Rattle.dns_records.proofs.PlaceLaws.{Places, HasOnly, next, one_more, position_cons, same_number, spot, true-not-false}

abbrev pub Entries : Type 0
Entries = BTreeMap RData ℕ

abbrev pub entry : Entries → RData → Option ℕ
entry m d = tree.get data_cmp m d

-- ---- equal data

equal_of : (o : Ordering) → is_eq o ≡ true → o ≡ Equal
equal_of Less e = absurd (true-not-false (sym e))
equal_of Equal e = refl
equal_of Greater e = absurd (true-not-false (sym e))

alike : (e d : RData) → data_cmp e d ≡ Equal → (es : List (RData × ℕ)) → lookup (tree.is_at (data_cmp e)) es ≡ lookup (tree.is_at (data_cmp d)) es
alike e d same [] = refl
alike e d same (x ∷ xs) = λ i. cond (is_eq (data_cmp-total.congr e d x.0 same i)) (Some x.1) (alike e d same xs i)

-- equal data has the same entry
entry_same : (m : Entries) (e d : RData) → same_data e d ≡ true → entry m e ≡ entry m d
entry_same m e d same = alike e d (equal_of (data_cmp e d) (sym (data_tie e d) ∙ same)) m.entries

-- ---- positions

found_by : (b : Bool) (o : Option ℕ) (i : ℕ) → (b ≡ true → 0 ≡ suc i) → o ≡ Some i → cond b (Some 0) (next o) ≡ Some (suc i)
unfolding next
found_by true o i f e = absurd (omega (arith, f refl))
found_by false o i f e = ap next e ∙ ap (λ k. Some k) (one_more i)

found_at : (p : Option Record → Bool) (places : Places) (i : ℕ) → ((place : Option Record) → slice_get places i ≡ Some place → p place ≡ true) → i < length places
    → ((j : ℕ) (place : Option Record) → slice_get places j ≡ Some place → p place ≡ true → j ≡ i) → position p places ≡ Some i
unfolding next
found_at p [] i there within only = absurd (omega (arith, within))
found_at p (x ∷ places) zero there within only = position_cons p x places ∙ ap (λ b. cond b (Some 0) (next (position p places))) (there x refl)
found_at p (x ∷ places) (suc i) there within only =
    position_cons p x places
    ∙ found_by (p x) (position p places) i (λ e. only 0 x refl e) (found_at p places i (λ place e. there place e) (omega (arith, within)) (λ j place e h. omega (arith, only (suc j) place e h)))

lost_by : (b : Bool) (o : Option ℕ) → (b ≡ true → ⊥) → o ≡ None → cond b (Some 0) (next o) ≡ None
unfolding next
lost_by true o f e = absurd (f refl)
lost_by false o f e = ap next e

lost : (p : Option Record → Bool) (places : Places) → ((j : ℕ) (place : Option Record) → slice_get places j ≡ Some place → p place ≡ true → ⊥) → position p places ≡ None
unfolding next
lost p [] none = refl
lost p (x ∷ places) none = position_cons p x places ∙ lost_by (p x) (position p places) (λ e. none 0 x refl e) (lost p places (λ j place h. none (suc j) place h))

at_place : (places : Places) (d : RData) (j : ℕ) (place : Option Record) → slice_get places j ≡ Some place → has_data place d ≡ is_place_of (slice_get places j) d
at_place places d j place e = sym (ap (λ o. is_place_of o d) e)

within : (places : Places) (d : RData) (i : ℕ) → is_place_of (slice_get places i) d ≡ true → i < length places
within [] d i e = absurd (true-not-false (sym e))
within (x ∷ places) d zero e = omega arith
within (x ∷ places) d (suc i) e = omega (arith, within places d i e)

only_by : (m : Entries) (places : Places) (d : RData) (i : ℕ) → HasPlaces m places → entry m d ≡ Some i → HasOnly places d i
only_by m places d i has e = λ j h. same_number i j (sym e ∙ has.is_entered d j h)

position_by : (m : Entries) (places : Places) (d : RData) (o : Option ℕ) → HasPlaces m places → entry m d ≡ o → o ≡ spot places d
position_by m places d None has e =
    sym (lost (λ place. has_data place d) places (λ j place at h. none (sym (has.is_entered d j (sym (at_place places d j place at) ∙ h)) ∙ e)))
  where
    none : {j : ℕ} → Some j ≡ None → ⊥
    none e = absurd cc
position_by m places d (Some i) has e =
    sym (found_at (λ place. has_data place d) places i (λ place at. at_place places d i place at ∙ has.is_place d i e) (within places d i (has.is_place d i e))
    (λ j place at h. only_by m places d i has e j (sym (at_place places d j place at) ∙ h)))

-- the entry of data is its position
pub position_entered : (m : Entries) (places : Places) (d : RData) → HasPlaces m places → entry m d ≡ spot places d
position_entered m places d has = position_by m places d (entry m d) has refl

pub only_entered : (m : Entries) (places : Places) (d : RData) (i : ℕ) → HasPlaces m places → entry m d ≡ Some i → HasOnly places d i
only_entered = only_by

-- ---- no entries

pub none_entered : (m : Entries) → tree.IsEmpty m → HasPlaces m []
none_entered m e = record {
  is_place = λ d i h. absurd (nothing (sym (ap (λ (es : List (RData × ℕ)). lookup (tree.is_at (data_cmp d)) es) e) ∙ h));
  is_entered = λ d i h. absurd (true-not-false (sym h));
}
  where
    nothing : {i : ℕ} → None ≡ Some i → ⊥
    nothing e = absurd cc

-- ---- a place that is added

push_old : (places : Places) (x : Option Record) (d : RData) (i : ℕ) → is_place_of (slice_get places i) d ≡ true → is_place_of (slice_get (places ++ x ∷ []) i) d ≡ true
push_old [] x d i e = absurd (true-not-false (sym e))
push_old (y ∷ places) x d zero e = e
push_old (y ∷ places) x d (suc i) e = push_old places x d i e

push_last : (places : Places) (x : Option Record) (d : RData) → is_place_of (slice_get (places ++ x ∷ []) (length places)) d ≡ has_data x d
push_last [] x d = refl
push_last (y ∷ places) x d = push_last places x d

push_at : (places : Places) (x : Option Record) (d : RData) (i : ℕ) → is_place_of (slice_get (places ++ x ∷ []) i) d ≡ true
    → (is_place_of (slice_get places i) d ≡ true) ⊎ ((i ≡ length places) × (has_data x d ≡ true))
push_at [] x d zero e = inr (refl, e)
push_at [] x d (suc i) e = absurd (true-not-false (sym e))
push_at (y ∷ places) x d zero e = inl e
push_at (y ∷ places) x d (suc i) e = shifted (push_at places x d i e)
  where
    shifted : ((is_place_of (slice_get places i) d ≡ true) ⊎ ((i ≡ length places) × (has_data x d ≡ true))) → (is_place_of (slice_get places i) d ≡ true) ⊎ ((suc i ≡ suc (length places)) × (has_data x d ≡ true))
    shifted (inl h) = inl h
    shifted (inr h) = inr (ap suc h.0, h.1)

-- an empty place has no entry
pub empty_entered : (m : Entries) (places : Places) → HasPlaces m places → HasPlaces m (places ++ None ∷ [])
empty_entered m places has = record {
  is_place = λ d i e. push_old places None d i (has.is_place d i e);
  is_entered = λ d i e. old d i (push_at places None d i e);
}
  where
    old : (d : RData) (i : ℕ) → (is_place_of (slice_get places i) d ≡ true) ⊎ ((i ≡ length places) × (false ≡ true)) → entry m d ≡ Some i
    old d i (inl h) = has.is_entered d i h
    old d i (inr h) = absurd (true-not-false (sym h.1))

module _ (old new : Entries) (places : Places) (key : RData) (x : Record) (n : ℕ) where
  newer : n ≡ length places → key ≡ x.rdata → HasPlaces old places → is_some (entry old x.rdata) ≡ false → tree.Updates data_cmp old new key (Some n)
      → HasPlaces new (places ++ Some x ∷ [])
  newer at same has none updates = record {
    is_place = λ d i e. placed d i (same_data key d) refl (sym (is d) ∙ e);
    is_entered = λ d i e. entered d i (push_at places (Some x) d i e);
  }
    where
      is : (d : RData) → entry new d ≡ cond (same_data key d) (Some n) (entry old d)
      is d = updates.0 d ∙ ap (λ b. cond b (Some n) (entry old d)) (sym (data_tie key d))

      equal : (d : RData) → same_data key d ≡ same_data x.rdata d
      equal d = ap (λ k. same_data k d) same

      placed : (d : RData) (i : ℕ) (b : Bool) → same_data key d ≡ b → cond b (Some n) (entry old d) ≡ Some i → is_place_of (slice_get (places ++ Some x ∷ []) i) d ≡ true
      placed d i true b e =
          ap (λ k. is_place_of (slice_get (places ++ Some x ∷ []) k) d) (same_number n i e ∙ at) ∙ push_last places (Some x) d ∙ sym (equal d) ∙ b
      placed d i false b e = push_old places (Some x) d i (has.is_place d i e)

      fresh : (d : RData) (i : ℕ) (b : Bool) → same_data key d ≡ b → entry old d ≡ Some i → cond b (Some n) (entry old d) ≡ Some i
      fresh d i true b e = absurd (true-not-false (sym (ap is_some (entry_same old x.rdata d (sym (equal d) ∙ b) ∙ e)) ∙ none))
      fresh d i false b e = e

      entered : (d : RData) (i : ℕ) → (is_place_of (slice_get places i) d ≡ true) ⊎ ((i ≡ length places) × (same_data x.rdata d ≡ true)) → entry new d ≡ Some i
      entered d i (inl h) = is d ∙ fresh d i (same_data key d) refl (has.is_entered d i h)
      entered d i (inr h) = is d ∙ ap (λ b. cond b (Some n) (entry old d)) (equal d ∙ h.1) ∙ ap (λ k. Some k) (at ∙ sym h.0)

-- data that has no entry gets one
pub push_entered : (old new : Entries) (places : Places) (key : RData) (x : Record) (n : ℕ) → n ≡ length places → key ≡ x.rdata → HasPlaces old places
    → is_some (entry old x.rdata) ≡ false → tree.Updates data_cmp old new key (Some n) → HasPlaces new (places ++ Some x ∷ [])
push_entered = newer

-- ---- the places so far

pub step_some : (old new : Entries) (places : Places) (i : ℕ) (place : Option Record) (r : Record) (key : RData) → i < length places → place ≡ get_or places i place → place ≡ Some r → key ≡ r.rdata
    → HasPlaces old (take i places) → is_some (entry old r.rdata) ≡ false → tree.Updates data_cmp old new key (Some i) → HasPlaces new (take (i + 1) places)
step_some old new places i place r key less is some same has none updates =
    subst (HasPlaces new) (sym (take_more places i place less ∙ ap (λ y. take i places ++ y ∷ []) (sym is ∙ some)))
    (push_entered old new (take i places) key r i (sym (length-take-le i places (omega arith))) same has none updates)

pub step_none : (m : Entries) (places : Places) (i : ℕ) (place : Option Record) → i < length places → place ≡ get_or places i place → place ≡ None → HasPlaces m (take i places) → HasPlaces m (take (i + 1) places)
step_none m places i place less is none has =
    subst (HasPlaces m) (sym (take_more places i place less ∙ ap (λ y. take i places ++ y ∷ []) (sym is ∙ none))) (empty_entered m (take i places) has)

-- ---- a place that is filled anew

pub refilled_at : (places : Places) (i : ℕ) (x : Record) (d : RData) (j : ℕ) → is_place_of (slice_get places i) x.rdata ≡ true
    → is_place_of (slice_get (slice_set places i (Some x)) j) d ≡ is_place_of (slice_get places j) d
refilled_at [] i x d j e = refl
refilled_at (None ∷ places) zero x d j e = absurd (true-not-false (sym e))
refilled_at (Some r ∷ places) zero x d zero e = sym (laws-law.congr r.rdata x.rdata d e)
refilled_at (Some r ∷ places) zero x d (suc j) e = refl
refilled_at (y ∷ places) (suc i) x d zero e = refl
refilled_at (y ∷ places) (suc i) x d (suc j) e = refilled_at places i x d j e

pub refilled : (index : DataPlaces) (places : Places) (i : ℕ) (x : Record) → is_place_of (slice_get places i) x.rdata ≡ true → IsIndexOf index places → IsIndexOf index (slice_set places i (Some x))
refilled index places i x there is = record {
  has_places = λ complete. record {
    is_place = λ d j e. refilled_at places i x d j there ∙ (is.has_places complete).is_place d j e;
    is_entered = λ d j e. (is.has_places complete).is_entered d j (sym (refilled_at places i x d j there) ∙ e);
  };
}

-- ---- a place that is emptied

emptied_at : (places : Places) (i j : ℕ) (d : RData) → is_place_of (slice_get (slice_set places i None) j) d ≡ true → is_place_of (slice_get places j) d ≡ true
emptied_at [] i j d e = e
emptied_at (y ∷ places) zero zero d e = absurd (true-not-false (sym e))
emptied_at (y ∷ places) zero (suc j) d e = e
emptied_at (y ∷ places) (suc i) zero d e = e
emptied_at (y ∷ places) (suc i) (suc j) d e = emptied_at places i j d e

emptied_not : (places : Places) (i : ℕ) (d : RData) → is_place_of (slice_get (slice_set places i None) i) d ≡ true → ⊥
emptied_not [] i d e = true-not-false (sym e)
emptied_not (y ∷ places) zero d e = true-not-false (sym e)
emptied_not (y ∷ places) (suc i) d e = emptied_not places i d e

emptied_else : (places : Places) (i j : ℕ) (d : RData) → (j ≡ i → ⊥) → is_place_of (slice_get places j) d ≡ true → is_place_of (slice_get (slice_set places i None) j) d ≡ true
emptied_else [] i j d other e = e
emptied_else (y ∷ places) zero zero d other e = absurd (other refl)
emptied_else (y ∷ places) zero (suc j) d other e = e
emptied_else (y ∷ places) (suc i) zero d other e = e
emptied_else (y ∷ places) (suc i) (suc j) d other e = emptied_else places i j d (λ h. other (ap suc h)) e

-- data of one place is equal
one_data : (o : Option (Option Record)) (a b : RData) → is_place_of o a ≡ true → is_place_of o b ≡ true → same_data a b ≡ true
one_data None a b e h = absurd (true-not-false (sym e))
one_data (Some None) a b e h = absurd (true-not-false (sym e))
one_data (Some (Some r)) a b e h = sym (laws-law.congr r.rdata a b e) ∙ h

module _ (old new : Entries) (places : Places) (e : RData) (i : ℕ) where
  less : HasPlaces old places → entry old e ≡ Some i → tree.Updates data_cmp old new e None → HasPlaces new (slice_set places i None)
  less has there updates = record {
    is_place = λ d j h. placed d j (same_data e d) refl (sym (is d) ∙ h);
    is_entered = λ d j h. is d ∙ entered d j h (same_data e d) refl;
  }
    where
      is : (d : RData) → entry new d ≡ cond (same_data e d) None (entry old d)
      is d = updates.0 d ∙ ap (λ b. cond b None (entry old d)) (sym (data_tie e d))

      placed : (d : RData) (j : ℕ) (b : Bool) → same_data e d ≡ b → cond b None (entry old d) ≡ Some j → is_place_of (slice_get (slice_set places i None) j) d ≡ true
      placed d j true b h = absurd (nothing h)
        where
          nothing : {k : ℕ} → None ≡ Some k → ⊥
          nothing h = absurd cc
      placed d j false b h = emptied_else places i j d
          (λ same. true-not-false (sym (one_data (slice_get places i) e d (has.is_place e i there) (subst (λ (k : ℕ). is_place_of (slice_get places k) d ≡ true) same (has.is_place d j h))) ∙ b))
          (has.is_place d j h)

      entered : (d : RData) (j : ℕ) → is_place_of (slice_get (slice_set places i None) j) d ≡ true → (b : Bool) → same_data e d ≡ b → cond b None (entry old d) ≡ Some j
      entered d j h true b =
          let one : entry old d ≡ Some j = has.is_entered d j (emptied_at places i j d h) in
          absurd (emptied_not places i d (subst (λ (k : ℕ). is_place_of (slice_get (slice_set places i None) k) d ≡ true) (same_number i j (sym there ∙ entry_same old e d b ∙ one)) h))
      entered d j h false b = has.is_entered d j (emptied_at places i j d h)

pub emptied_entered : (old new : Entries) (places : Places) (e : RData) (i : ℕ) → HasPlaces old places → entry old e ≡ Some i → tree.Updates data_cmp old new e None → HasPlaces new (slice_set places i None)
emptied_entered = less

-- ---- indexes

pub complete_of : (index : DataPlaces) (places : Places) → HasPlaces index.entries places → IsIndexOf index places
complete_of index places has = record { has_places = λ e. has }

pub incomplete_of : (index : DataPlaces) → index.is_complete ≡ false → (places : Places) → IsIndexOf index places
incomplete_of index e places = record { has_places = λ h. absurd (true-not-false (sym h ∙ e)) }

pub removed_index : (old new : DataPlaces) (places : Places) (d : RData) (o : Option ℕ) → HasPlaces old.entries places → o ≡ entry old.entries d → tree.Updates data_cmp old.entries new.entries d None
    → IfSome o (λ i. IsIndexOf new (slice_set places i None))
removed_index old new places d None has e updates = tt
removed_index old new places d (Some i) has e updates =
    complete_of new (slice_set places i None) (emptied_entered old.entries new.entries places d i has (sym e) updates)
