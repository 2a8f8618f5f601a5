-- The indexes of a table, while entries are appended and removed.
use Rattle.std.proofs.Common.{◌≡◌, ◌≢◌, ℕ, ◌+◌, ◌<◌, Bool, true, false, List, get_or, ap, sym, ◌∙◌, subst, arith, ◌⊎◌, inl, inr}
use Rattle.std.specs.Prelude.{Option, Some, None, IsSome, is_some, Result, Ok, Err, OnErr, option_map, ◌==◌}
use Rattle.std.specs.Ordering.{is_eq}
use Rattle.std.specs.Cmp.Lexicographic.{nat_list_eq_equiv}
use Rattle.std.specs.Str.{bytes_eq}
use Rattle.std.specs.BTreeSet as sorted
use Rattle.std.specs.HashMap as hash
use Rattle.std.specs.Map.{lookup, IsKeyTest, AreApart as AreKeysApart, KeepsOthers}
use Rattle.std.specs.declared.vec.Vec.{Vec}
use Rattle.std.proofs.lemmas.Bool.{and_from, and_left, and_right, cases_eq, cases_Bool, eq-eqb, ne_eqb, false_from_ne_true}
use Rattle.std.proofs.lemmas.Bool.Decides.{nat_tests}
use Rattle.std.proofs.lemmas.Slice.Eq.{bytes_eq-Decides}
use Rattle.slab.specs.Slab as slab
use Rattle.stub_cache.specs.internal.Key.{key_of}
use Rattle.stub_cache.specs.internal.Table.{IsIndexed, due_cmp, is_dated, is_due, slot_at, slot_in, stored_at}
use Rattle.stub_cache.specs.declared.cache.entry.Entry.{Entry}
use Rattle.stub_cache.specs.declared.cache.table.EntryTable.{EntryTable}
use Rattle.stub_cache.proofs.StampLaws.{AreApart, taken_apart}

-- ---- equality of keys

pub cases_key : (key other : List ℕ) → (key ≡ other) ⊎ (key ≡ other → ⊥)
cases_key key other = split (cases_Bool (bytes_eq key other))
  where
    split : (bytes_eq key other ≡ true) ⊎ (bytes_eq key other ≡ false) → (key ≡ other) ⊎ (key ≡ other → ⊥)
    split (inl is) = inl ((bytes_eq-Decides key other).0 is)
    split (inr differs) = inr (λ same. let is : bytes_eq key other ≡ true = (bytes_eq-Decides key other).1 same in cc)

differ : (key other : List ℕ) → (key ≡ other → ⊥) → bytes_eq other key ≡ false
differ key other differs = false_from_ne_true (bytes_eq other key) (λ is. differs (sym ((bytes_eq-Decides other key).0 is)))

-- ---- whether an entry has a deadline and a stamp

dated : (deadline stamp : ℕ) (p : ℕ × Entry) → p.1.deadline ≡ deadline → p.0 ≡ stamp → is_dated deadline stamp (Some p) ≡ true
dated deadline stamp p on_time same = and_from (p.1.deadline == deadline) (p.0 == stamp) (eq-eqb p.1.deadline deadline on_time) (eq-eqb p.0 stamp same)

not_dated : (deadline stamp : ℕ) (p : ℕ × Entry) → (p.1.deadline ≡ deadline → p.0 ≡ stamp → ⊥) → is_dated deadline stamp (Some p) ≡ false
not_dated deadline stamp p differs = split (cases_eq p.1.deadline deadline) (cases_eq p.0 stamp)
  where
    split : (p.1.deadline ≡ deadline) ⊎ (p.1.deadline ≡ deadline → ⊥) → (p.0 ≡ stamp) ⊎ (p.0 ≡ stamp → ⊥) → is_dated deadline stamp (Some p) ≡ false
    split (inl on_time) (inl same) = absurd (differs on_time same)
    split (inl on_time) (inr other) = and_right (p.1.deadline == deadline) (p.0 == stamp) (ne_eqb p.0 stamp other)
    split (inr late) same = and_left (p.1.deadline == deadline) (p.0 == stamp) (ne_eqb p.1.deadline deadline late)

-- a deadline and a stamp are those of an entry, or differ
cases_dated : (deadline stamp : ℕ) (p : ℕ × Entry) → ((p.1.deadline ≡ deadline) × (p.0 ≡ stamp)) ⊎ (p.1.deadline ≡ deadline → p.0 ≡ stamp → ⊥)
cases_dated deadline stamp p = split (cases_eq p.1.deadline deadline) (cases_eq p.0 stamp)
  where
    split : (p.1.deadline ≡ deadline) ⊎ (p.1.deadline ≡ deadline → ⊥) → (p.0 ≡ stamp) ⊎ (p.0 ≡ stamp → ⊥)
        → ((p.1.deadline ≡ deadline) × (p.0 ≡ stamp)) ⊎ (p.1.deadline ≡ deadline → p.0 ≡ stamp → ⊥)
    split (inl on_time) (inl same) = inl (on_time, same)
    split (inl on_time) (inr other) = inr (λ _ same. other same)
    split (inr late) same = inr (λ on_time _. late on_time)

-- ---- a table with an entry more

-- one table is another with an entry in a slot that was free, to which the entry's key leads
pub record IsAppended (old new : EntryTable) (slot : ℕ) (e : Entry) : Type 0 where
  pub was_free : stored_at old slot ≡ None
  pub entry_here : stored_at new slot ≡ Some (old.next_stamp, e)
  pub entry_other : (other : ℕ) → (other ≡ slot → ⊥) → stored_at new other ≡ stored_at old other
  pub slot_here : slot_at new (key_of e.question) ≡ Some slot
  pub slot_other : (key : List ℕ) → (key_of e.question ≡ key → ⊥) → slot_at new key ≡ slot_at old key
  pub due_here : is_due new e.deadline old.next_stamp slot ≡ true
  pub due_other : (deadline stamp other : ℕ) → (e.deadline ≡ deadline → old.next_stamp ≡ stamp → slot ≡ other → ⊥) → is_due new deadline stamp other ≡ is_due old deadline stamp other
  pub next : new.next_stamp ≡ old.next_stamp + 1

module _ (old new : EntryTable) (slot : ℕ) (e : Entry) (before : IsIndexed None old) (made : IsAppended old new slot e) where
  -- no key leads to the slot
  unused : (key : List ℕ) (other : ℕ) → slot_at old key ≡ Some other → other ≡ slot → ⊥
  unused key other is same =
      let at = before.sound key other is in
      let none : stored_at old other ≡ None = subst (λ s. stored_at old s ≡ None) (sym same) made.was_free in
      let nothing : Some key ≡ None = sym at ∙ ap (option_map (λ (p : ℕ × Entry). key_of p.1.question)) none in
      absurd (cc)

  -- an entry is the new one, or was there
  was_there : (other : ℕ) (p : ℕ × Entry) → stored_at new other ≡ Some p → ((other ≡ slot) × ((old.next_stamp, e) ≡ p)) ⊎ ((other ≡ slot → ⊥) × (stored_at old other ≡ Some p))
  was_there other p is = split (cases_eq other slot)
    where
      split : (other ≡ slot) ⊎ (other ≡ slot → ⊥) → ((other ≡ slot) × ((old.next_stamp, e) ≡ p)) ⊎ ((other ≡ slot → ⊥) × (stored_at old other ≡ Some p))
      split (inl same) =
          let here : stored_at new other ≡ Some (old.next_stamp, e) = subst (λ s. stored_at new s ≡ Some (old.next_stamp, e)) (sym same) made.entry_here in
          let entries : Some (old.next_stamp, e) ≡ Some p = sym here ∙ is in
          let entry : (old.next_stamp, e) ≡ p = cc in
          inl (same, entry)
      split (inr differs) = inr (differs, sym (made.entry_other other differs) ∙ is)

  appended_sound : (key : List ℕ) (other : ℕ) → slot_at new key ≡ Some other → option_map (λ (p : ℕ × Entry). key_of p.1.question) (stored_at new other) ≡ Some key
  appended_sound key other is = split (cases_key (key_of e.question) key)
    where
      split : (key_of e.question ≡ key) ⊎ (key_of e.question ≡ key → ⊥) → option_map (λ (p : ℕ × Entry). key_of p.1.question) (stored_at new other) ≡ Some key
      split (inl same) =
          let here : slot_at new key ≡ Some slot = subst (λ k. slot_at new k ≡ Some slot) same made.slot_here in
          let somes : Some slot ≡ Some other = sym here ∙ is in
          let slots : slot ≡ other = cc in
          let entry : stored_at new other ≡ Some (old.next_stamp, e) = subst (λ s. stored_at new s ≡ Some (old.next_stamp, e)) slots made.entry_here in
          ap (option_map (λ (p : ℕ × Entry). key_of p.1.question)) entry ∙ ap (λ k. Some k) same
      split (inr differs) =
          let was : slot_at old key ≡ Some other = sym (made.slot_other key differs) ∙ is in
          ap (option_map (λ (p : ℕ × Entry). key_of p.1.question)) (made.entry_other other (unused key other was)) ∙ before.sound key other was

  appended_known : (other : ℕ) (p : ℕ × Entry) → stored_at new other ≡ Some p → slot_at old (key_of e.question) ≢ Some other → slot_at new (key_of p.1.question) ≡ Some other
  appended_known other p is apart = split (was_there other p is)
    where
      others : stored_at old other ≡ Some p → (key_of e.question ≡ key_of p.1.question) ⊎ (key_of e.question ≡ key_of p.1.question → ⊥) → slot_at new (key_of p.1.question) ≡ Some other
      others was (inl same) =
          let known = before.known other p was (λ h. absurd (cc)) in
          absurd (apart (subst (λ k. slot_at old k ≡ Some other) (sym same) known))
      others was (inr differs) = made.slot_other (key_of p.1.question) differs ∙ before.known other p was (λ h. absurd (cc))

      split : ((other ≡ slot) × ((old.next_stamp, e) ≡ p)) ⊎ ((other ≡ slot → ⊥) × (stored_at old other ≡ Some p)) → slot_at new (key_of p.1.question) ≡ Some other
      split (inl here) = subst (λ (q : ℕ × Entry). slot_at new (key_of q.1.question) ≡ Some other) here.1 (made.slot_here ∙ ap (λ s. Some s) (sym here.0))
      split (inr there) = others there.1 (cases_key (key_of e.question) (key_of p.1.question))

  appended_timely : (deadline stamp other : ℕ) → is_due new deadline stamp other ≡ is_dated deadline stamp (stored_at new other)
  appended_timely deadline stamp other = split (cases_eq other slot)
    where
      here : ((e.deadline ≡ deadline) × (old.next_stamp ≡ stamp)) ⊎ (e.deadline ≡ deadline → old.next_stamp ≡ stamp → ⊥) → is_due new deadline stamp slot ≡ is_dated deadline stamp (Some (old.next_stamp, e))
      here (inl same) =
          subst (λ d. is_due new d stamp slot ≡ true) same.0 (subst (λ s. is_due new e.deadline s slot ≡ true) same.1 made.due_here)
          ∙ sym (dated deadline stamp (old.next_stamp, e) same.0 same.1)
      here (inr differs) =
          made.due_other deadline stamp slot (λ on_time same _. differs on_time same)
          ∙ (before.timely deadline stamp slot ∙ (ap (is_dated deadline stamp) made.was_free ∙ sym (not_dated deadline stamp (old.next_stamp, e) differs)))

      split : (other ≡ slot) ⊎ (other ≡ slot → ⊥) → is_due new deadline stamp other ≡ is_dated deadline stamp (stored_at new other)
      split (inl same) =
          subst (λ s. is_due new deadline stamp s ≡ is_dated deadline stamp (stored_at new s)) (sym same)
          (here (cases_dated deadline stamp (old.next_stamp, e)) ∙ sym (ap (is_dated deadline stamp) made.entry_here))
      split (inr differs) =
          made.due_other deadline stamp other (λ _ _ same. differs (sym same))
          ∙ (before.timely deadline stamp other ∙ sym (ap (is_dated deadline stamp) (made.entry_other other differs)))

  appended_fresh : (other : ℕ) (p : ℕ × Entry) → stored_at new other ≡ Some p → p.0 < new.next_stamp
  appended_fresh other p is = split (was_there other p is)
    where
      split : ((other ≡ slot) × ((old.next_stamp, e) ≡ p)) ⊎ ((other ≡ slot → ⊥) × (stored_at old other ≡ Some p)) → p.0 < new.next_stamp
      split (inl here) = let stamps : old.next_stamp ≡ p.0 = ap (λ (q : ℕ × Entry). q.0) here.1 in omega (arith, stamps, made.next)
      split (inr there) = let lower = before.fresh other p there.1 in omega (arith, lower, made.next)

  appended_distinct : AreApart new.slots.slots
  appended_distinct =
      taken_apart old.slots.slots new.slots.slots slot (old.next_stamp, e) made.entry_here made.entry_other before.distinct
      (λ other q is same. let lower = before.fresh other q is in omega (arith, lower, same))

  pub appended : IsIndexed (slot_at old (key_of e.question)) new
  appended = record {
    sound = appended_sound;
    known = appended_known;
    timely = appended_timely;
    fresh = appended_fresh;
    distinct = appended_distinct;
  }

-- ---- a table with an entry less

-- whether there is a stamp, and which
abbrev pub is_stamp : ℕ → Option ℕ → Bool
is_stamp stamp None = false
is_stamp stamp (Some other) = other == stamp

-- one table is another without the entry in a slot, to which no key leads any more
pub record IsRemoved (old new : EntryTable) (slot : ℕ) (gone : ℕ × Entry) : Type 0 where
  pub entry_old : stored_at old slot ≡ Some gone
  pub entry_here : stored_at new slot ≡ None
  pub entry_other : (other : ℕ) → (other ≡ slot → ⊥) → stored_at new other ≡ stored_at old other
  pub slot_here : slot_at new (key_of gone.1.question) ≢ Some slot
  pub slot_other : (key : List ℕ) (other : ℕ) → (other ≡ slot → ⊥) → slot_at old key ≡ Some other → slot_at new key ≡ Some other
  pub slot_only : (key : List ℕ) (other : ℕ) → slot_at new key ≡ Some other → slot_at old key ≡ Some other
  pub due_here : is_due new gone.1.deadline gone.0 slot ≡ false
  pub due_other : (deadline stamp other : ℕ) → (gone.1.deadline ≡ deadline → gone.0 ≡ stamp → slot ≡ other → ⊥) → is_due new deadline stamp other ≡ is_due old deadline stamp other
  pub next : new.next_stamp ≡ old.next_stamp

module _ (old new : EntryTable) (slot : ℕ) (gone : ℕ × Entry) (before : IsIndexed (Some slot) old) (made : IsRemoved old new slot gone) where
  -- an entry that is left was there
  left_over : (other : ℕ) (p : ℕ × Entry) → stored_at new other ≡ Some p → (other ≡ slot → ⊥) × (stored_at old other ≡ Some p)
  left_over other p is = (differs, sym (made.entry_other other differs) ∙ is)
    where
      differs : other ≡ slot → ⊥
      differs same = let none : stored_at new other ≡ None = subst (λ s. stored_at new s ≡ None) (sym same) made.entry_here in cc

  removed_sound : (key : List ℕ) (other : ℕ) → slot_at new key ≡ Some other → option_map (λ (p : ℕ × Entry). key_of p.1.question) (stored_at new other) ≡ Some key
  removed_sound key other is = split (cases_eq other slot)
    where
      was : slot_at old key ≡ Some other
      was = made.slot_only key other is

      split : (other ≡ slot) ⊎ (other ≡ slot → ⊥) → option_map (λ (p : ℕ × Entry). key_of p.1.question) (stored_at new other) ≡ Some key
      split (inl same) =
          let at = before.sound key other was in
          let entry : stored_at old other ≡ Some gone = subst (λ s. stored_at old s ≡ Some gone) (sym same) made.entry_old in
          let keys : Some (key_of gone.1.question) ≡ Some key = sym (ap (option_map (λ (p : ℕ × Entry). key_of p.1.question)) entry) ∙ at in
          let key_is : key_of gone.1.question ≡ key = cc in
          absurd (made.slot_here (subst (λ k. slot_at new k ≡ Some slot) (sym key_is) (is ∙ ap (λ s. Some s) same)))
      split (inr differs) = ap (option_map (λ (p : ℕ × Entry). key_of p.1.question)) (made.entry_other other differs) ∙ before.sound key other was

  removed_known : (other : ℕ) (p : ℕ × Entry) → stored_at new other ≡ Some p → slot_at new (key_of p.1.question) ≡ Some other
  removed_known other p is =
      let was = left_over other p is in
      made.slot_other (key_of p.1.question) other was.0 (before.known other p was.1 (λ h. was.0 (sym (cc))))

  removed_timely : (deadline stamp other : ℕ) → is_due new deadline stamp other ≡ is_dated deadline stamp (stored_at new other)
  removed_timely deadline stamp other = split (cases_eq other slot)
    where
      here : ((gone.1.deadline ≡ deadline) × (gone.0 ≡ stamp)) ⊎ (gone.1.deadline ≡ deadline → gone.0 ≡ stamp → ⊥) → is_due new deadline stamp slot ≡ false
      here (inl same) = subst (λ d. is_due new d stamp slot ≡ false) same.0 (subst (λ s. is_due new gone.1.deadline s slot ≡ false) same.1 made.due_here)
      here (inr differs) =
          made.due_other deadline stamp slot (λ on_time same _. differs on_time same)
          ∙ (before.timely deadline stamp slot ∙ (ap (is_dated deadline stamp) made.entry_old ∙ not_dated deadline stamp gone differs))

      split : (other ≡ slot) ⊎ (other ≡ slot → ⊥) → is_due new deadline stamp other ≡ is_dated deadline stamp (stored_at new other)
      split (inl same) =
          subst (λ s. is_due new deadline stamp s ≡ is_dated deadline stamp (stored_at new s)) (sym same)
          (here (cases_dated deadline stamp gone) ∙ sym (ap (is_dated deadline stamp) made.entry_here))
      split (inr differs) =
          made.due_other deadline stamp other (λ _ _ same. differs (sym same))
          ∙ (before.timely deadline stamp other ∙ sym (ap (is_dated deadline stamp) (made.entry_other other differs)))

  pub removed : IsIndexed None new
  removed = record {
    sound = removed_sound;
    known = λ other p is apart. removed_known other p is;
    timely = removed_timely;
    fresh = λ other p is. let lower = before.fresh other p (left_over other p is).1 in omega (arith, lower, made.next);
    distinct = λ one other p q first second same. before.distinct one other p q (left_over one p first).1 (left_over other q second).1 same;
  }

-- ---- updates of the index of questions

keeps : {K X : Type 0} (eq : K → K → Bool) (test : K → Bool) (old new : List (K × X)) → KeepsOthers eq test old new
    → (other : K → Bool) → IsKeyTest eq other → AreKeysApart test other → lookup other new ≡ lookup other old
unfolding KeepsOthers
keeps eq test old new h other one apart = h other one apart

module _ {Y S : Type 0} (old new : hash.HashMap (Vec ℕ Y) ℕ S) (key : List ℕ) (w : Option ℕ)
    (updates : hash.UpdatesBy (λ x y. bytes_eq x.items y.items) (λ k. bytes_eq key k.items) old new w) where
  pub slot_updated : slot_in new key ≡ w
  slot_updated = updates.1

  pub slot_kept : (other : List ℕ) → (key ≡ other → ⊥) → slot_in new other ≡ slot_in old other
  slot_kept other differs =
      keeps (λ (x y : Vec ℕ Y). bytes_eq x.items y.items) (λ (k : Vec ℕ Y). bytes_eq key k.items) old.entries new.entries updates.3
      (λ (k : Vec ℕ Y). bytes_eq other k.items)
      (λ x y h. nat_list_eq_equiv.congr other x.items y.items h)
      (λ k h.
      let key_is : key ≡ k.items = (bytes_eq-Decides key k.items).0 h in
      subst (λ ks. bytes_eq other ks ≡ false) key_is (differ key other differs))

  -- a key that led to a slot leads nowhere, and other keys where they did
  pub key_gone_others : (gone : ℕ) → w ≡ None → slot_in old key ≡ Some gone → (other : List ℕ) (slot : ℕ) → (slot ≡ gone → ⊥)
      → slot_in old other ≡ Some slot → slot_in new other ≡ Some slot
  key_gone_others gone none led other slot apart found = split (cases_key key other)
    where
      split : (key ≡ other) ⊎ (key ≡ other → ⊥) → slot_in new other ≡ Some slot
      split (inl same) =
          let here : slot_in old other ≡ Some gone = subst (λ ks. slot_in old ks ≡ Some gone) same led in
          absurd (apart (cc))
      split (inr differs) = slot_kept other differs ∙ found

  pub key_gone_only : w ≡ None → (other : List ℕ) (slot : ℕ) → slot_in new other ≡ Some slot → slot_in old other ≡ Some slot
  key_gone_only none other slot found = split (cases_key key other)
    where
      split : (key ≡ other) ⊎ (key ≡ other → ⊥) → slot_in old other ≡ Some slot
      split (inl same) =
          let here : slot_in new other ≡ w = subst (λ ks. slot_in new ks ≡ w) same slot_updated in
          absurd (cc)
      split (inr differs) = sym (slot_kept other differs) ∙ found

-- ---- updates of the timeline

pub due_apart : (p q : ℕ × ℕ × ℕ) → (p.0 ≡ q.0 → p.1 ≡ q.1 → p.2 ≡ q.2 → ⊥) → is_eq (due_cmp p q) ≡ false
due_apart p q differs = split (cases_eq p.0 q.0) (cases_eq p.1 q.1) (cases_eq p.2 q.2)
  where
    split : (p.0 ≡ q.0) ⊎ (p.0 ≡ q.0 → ⊥) → (p.1 ≡ q.1) ⊎ (p.1 ≡ q.1 → ⊥) → (p.2 ≡ q.2) ⊎ (p.2 ≡ q.2 → ⊥) → is_eq (due_cmp p q) ≡ false
    split (inl same) (inl alike) (inl equal) = absurd (differs same alike equal)
    split (inl same) (inl alike) (inr other) = grind (arith, nat_tests)
    split (inl same) (inr other) equal = grind (arith, nat_tests)
    split (inr other) alike equal = grind (arith, nat_tests)

-- ---- the calls that append an entry

pub is_appended : (old new : EntryTable) (slot : ℕ) (e : Entry) (key : List ℕ) → key ≡ key_of e.question
    → stored_at old slot ≡ None
    → slab.Updates old.slots new.slots slot (Some (old.next_stamp, e))
    → hash.UpdatesBy (λ x y. bytes_eq x.items y.items) (λ k. bytes_eq key k.items) old.index new.index (Some slot)
    → sorted.Updates due_cmp old.timeline new.timeline (e.deadline, old.next_stamp, slot) true
    → new.next_stamp ≡ old.next_stamp + 1 → IsAppended old new slot e
is_appended old new slot e key key_is free entries index due next = record {
  was_free = free;
  entry_here = entries.changed;
  entry_other = entries.others;
  slot_here = subst (λ k. slot_at new k ≡ Some slot) key_is (slot_updated old.index new.index key (Some slot) index);
  slot_other = λ other differs. slot_kept old.index new.index key (Some slot) index other (λ same. differs (sym key_is ∙ same));
  due_here = due.1;
  due_other = λ deadline stamp other differs. due.2 (deadline, stamp, other) (due_apart (e.deadline, old.next_stamp, slot) (deadline, stamp, other) differs);
  next = next;
}

-- slots in which an entry is put, once there is room for it
pub put_in_room : (old mid new : slab.Slab (ℕ × Entry)) (capacity slot key : ℕ) (p q : ℕ × Entry) → mid ≡ record old { capacity = capacity } → key ≡ slot → q ≡ p
    → slab.Updates mid new key (Some q) → slab.Updates old new slot (Some p)
put_in_room old mid new capacity slot key p q room key_is same updates = record {
  changed = subst (λ k. slab.get new k ≡ Some p) key_is (updates.changed ∙ ap (λ x. Some x) same);
  others = λ other differs. updates.others other (λ is. differs (is ∙ key_is)) ∙ ap (λ (s : slab.Slab (ℕ × Entry)). slab.get s other) room;
}

-- an entry that was there is not in the slot that was free
pub kept_in_room : (old new : slab.Slab (ℕ × Entry)) (slot : ℕ) (p : ℕ × Entry) → slab.get old slot ≡ None → slab.Updates old new slot (Some p)
    → (other : ℕ) → IsSome (slab.get old other) → slab.get new other ≡ slab.get old other
kept_in_room old new slot p free updates other some =
    updates.others other (λ is. let none : slab.get old other ≡ None = subst (λ s. slab.get old s ≡ None) (sym is) free in let nothing = ap is_some none in absurd (cc))

-- what holds in any case holds of a failure
pub on_failure : {T E P : Type 0} (r : Result T E) → P → OnErr r P
on_failure (Ok value) holds = tt
on_failure (Err error) holds = holds

-- a table with the same entries and indexes
pub undone : (old new : EntryTable) → IsIndexed None old → new.slots.slots ≡ old.slots.slots → new.index.entries ≡ old.index.entries
    → ((deadline stamp slot : ℕ) → is_due new deadline stamp slot ≡ is_due old deadline stamp slot) → new.next_stamp ≡ old.next_stamp → IsIndexed None new
undone old new before slots index due next = record {
  sound = λ key slot is. ap (option_map (λ (p : ℕ × Entry). key_of p.1.question)) (entry_is slot) ∙ before.sound key slot (sym (slot_is key) ∙ is);
  known = λ slot p is apart. slot_is (key_of p.1.question) ∙ before.known slot p (sym (entry_is slot) ∙ is) apart;
  timely = λ deadline stamp slot. due deadline stamp slot ∙ (before.timely deadline stamp slot ∙ sym (ap (is_dated deadline stamp) (entry_is slot)));
  fresh = λ slot p is. let lower = before.fresh slot p (sym (entry_is slot) ∙ is) in omega (arith, next, lower);
  distinct = λ slot other p q first second same. before.distinct slot other p q (sym (entry_is slot) ∙ first) (sym (entry_is other) ∙ second) same;
}
  where
    entry_is : (slot : ℕ) → stored_at new slot ≡ stored_at old slot
    entry_is slot = ap (λ (ss : List (Option (ℕ × Entry))). get_or ss slot None) slots

    slot_is : (key : List ℕ) → slot_at new key ≡ slot_at old key
    slot_is key = ap (lookup (λ k. bytes_eq key k.items)) index

-- a deadline that is taken back
pub due_undone : (old : EntryTable) (mid new : sorted.BTreeSet (ℕ × ℕ × ℕ)) (due slot : ℕ) → IsIndexed None old → stored_at old slot ≡ None
    → sorted.Updates due_cmp old.timeline mid (due, old.next_stamp, slot) true → sorted.Updates due_cmp mid new (due, old.next_stamp, slot) false
    → (deadline stamp other : ℕ) → sorted.contains due_cmp new (deadline, stamp, other) ≡ is_due old deadline stamp other
due_undone old mid new due slot before free put back deadline stamp other = split (cases_eq due deadline) (cases_eq old.next_stamp stamp) (cases_eq slot other)
  where
    apart : (due ≡ deadline → old.next_stamp ≡ stamp → slot ≡ other → ⊥) → sorted.contains due_cmp new (deadline, stamp, other) ≡ is_due old deadline stamp other
    apart differs =
        back.2 (deadline, stamp, other) (due_apart (due, old.next_stamp, slot) (deadline, stamp, other) differs)
        ∙ put.2 (deadline, stamp, other) (due_apart (due, old.next_stamp, slot) (deadline, stamp, other) differs)

    split : (due ≡ deadline) ⊎ (due ≡ deadline → ⊥) → (old.next_stamp ≡ stamp) ⊎ (old.next_stamp ≡ stamp → ⊥) → (slot ≡ other) ⊎ (slot ≡ other → ⊥)
        → sorted.contains due_cmp new (deadline, stamp, other) ≡ is_due old deadline stamp other
    split (inl on_time) (inl same) (inl here) =
        let gone : sorted.contains due_cmp new (deadline, stamp, other) ≡ false =
        subst (λ d. sorted.contains due_cmp new (d, stamp, other) ≡ false) on_time
        (subst (λ s. sorted.contains due_cmp new (due, s, other) ≡ false) same
        (subst (λ o. sorted.contains due_cmp new (due, old.next_stamp, o) ≡ false) here back.1)) in
        let none : stored_at old other ≡ None = subst (λ o. stored_at old o ≡ None) here free in
        gone ∙ sym (before.timely deadline stamp other ∙ ap (is_dated deadline stamp) none)
    split (inl on_time) (inl same) (inr differs) = apart (λ _ _ here. differs here)
    split (inl on_time) (inr differs) here = apart (λ _ is _. differs is)
    split (inr differs) same here = apart (λ is _ _. differs is)

-- ---- the calls that remove an entry

pub is_removed : (old new : EntryTable) (slot : ℕ) (gone : ℕ × Entry) (key : List ℕ) (deadline stamp : ℕ) → key ≡ key_of gone.1.question → deadline ≡ gone.1.deadline → stamp ≡ gone.0
    → stored_at old slot ≡ Some gone → slab.Updates old.slots new.slots slot None
    → slot_at new key ≢ Some slot
    → ((other : List ℕ) (place : ℕ) → (place ≡ slot → ⊥) → slot_at old other ≡ Some place → slot_at new other ≡ Some place)
    → ((other : List ℕ) (place : ℕ) → slot_at new other ≡ Some place → slot_at old other ≡ Some place)
    → sorted.Updates due_cmp old.timeline new.timeline (deadline, stamp, slot) false
    → new.next_stamp ≡ old.next_stamp → IsRemoved old new slot gone
is_removed old new slot gone key deadline stamp key_is on_time same there entries here others only due next = record {
  entry_old = there;
  entry_here = entries.changed;
  entry_other = entries.others;
  slot_here = subst (λ k. slot_at new k ≢ Some slot) key_is here;
  slot_other = others;
  slot_only = only;
  due_here = subst (λ d. is_due new d gone.0 slot ≡ false) on_time (subst (λ s. is_due new deadline s slot ≡ false) same due.1);
  due_other = λ d s other differs. due.2 (d, s, other) (due_apart (deadline, stamp, slot) (d, s, other) (λ at_deadline at_stamp at_slot. differs (sym on_time ∙ at_deadline) (sym same ∙ at_stamp) at_slot));
  next = next;
}
