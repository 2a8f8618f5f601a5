-- Which entries of a table are for a question, which one is evicted, and which stay.
use Rattle.std.proofs.Common.{◌≡◌, ℕ, zero, suc, ◌+◌, ◌<◌, ◌≤◌, true, false, List, [], ◌∷◌, ◌++◌, length, take, get_or, refl, ap, sym, ◌∙◌, subst, arith, length-append, ◌⊎◌, inl, inr}
use Rattle.std.specs.Prelude.{Option, Some, None, option_map, nat_lt, IfSome, IsSome, is_some, ◌==◌}
use Rattle.std.specs.Ordering.{is_gt, nat_cmp}
use Rattle.std.specs.declared.cmp.Ordering.TheVariants.{Less}
use Rattle.std.specs.BTreeMap as tree
use Rattle.std.specs.BTreeSet as sorted
use Rattle.std.specs.Map.{keys_of, remove_entry, values_of}
use Rattle.std.specs.List.{find, list_any}
use Rattle.std.proofs.lemmas.Bool.{and_parts, cases_order, eq-eqb, eqb-true, le-ltb, lt-ltb, ne_eqb, and_from, false_from_ne_true}
use Rattle.std.proofs.lemmas.Bool.Decides.{nat_tests}
use Rattle.std.proofs.lemmas.List.{append_assoc, append_cancel_right, length-map, map-append, take_at}
use Rattle.slab.specs.Slab.{slab_len}
use Rattle.dns_messages.specs.declared.query.Query.{Query}
use Rattle.stub_cache.specs.Cache.{cleared_of, evicted, is_about, is_current, same_key, staying}
use Rattle.stub_cache.specs.internal.Key.{key_of}
use Rattle.stub_cache.specs.internal.Table.{IsIndexed, by_stamp, due_cmp, entries_of, entries_without, is_dated, is_due, slot_at, stamped, stored_at, without}
use Rattle.stub_cache.specs.declared.cache.entry.Entry.{Entry}
use Rattle.stub_cache.specs.declared.cache.table.EntryTable.{EntryTable}
use Rattle.stub_cache.proofs.KeyLaws.{key_from_same, same_from_key}
use Rattle.stub_cache.proofs.TableLaws.{cases_key}
use Rattle.stub_cache.proofs.StampLaws.{all_from_found, by_stamp_freed, by_stamp_length, by_stamp_ordered, by_stamp_taken, found, found_first, found_from_slot, slot_from_found, stored, taken_apart}
use Rattle.stub_cache.proofs.EntriesLaws.{AreAbout, IsFirstDue, all_below, any_none, any_one, clear_none, clear_one, evict_first, find_none, find_one, insert_last, remove_before, unless_due}

-- ---- entries for a question

-- a slot to which a key leads has an entry
pub slot_is_taken : (t : EntryTable) → IsIndexed None t → (key : List ℕ) (slot : ℕ) → slot_at t key ≡ Some slot → IsSome (stored_at t slot)
slot_is_taken t is key slot led = split (stored_at t slot) refl
  where
    split : (o : Option (ℕ × Entry)) → stored_at t slot ≡ o → IsSome (stored_at t slot)
    split None none =
        let nothing : Some key ≡ None = sym (is.sound key slot led) ∙ ap (option_map (λ (p : ℕ × Entry). key_of p.1.question)) none in
        absurd (cc)
    split (Some p) some = ap is_some some

-- the entry of a slot, if there is one
abbrev pub entry_in : Option (ℕ × Entry) → Option Entry
entry_in o = option_map (λ p. p.1) o

module _ (t : EntryTable) (is : IsIndexed None t) (q : Query) where
  -- an entry that is found by a key has it
  found_by_key : (slot : ℕ) (p : ℕ × Entry) → slot_at t (key_of q) ≡ Some slot → stored_at t slot ≡ Some p → key_of p.1.question ≡ key_of q
  found_by_key slot p led at =
      let keys : Some (key_of p.1.question) ≡ Some (key_of q) = sym (ap (option_map (λ (x : ℕ × Entry). key_of x.1.question)) at) ∙ is.sound (key_of q) slot led in
      cc

  -- an entry is for the question if its key leads to its slot
  known_by_key : (slot : ℕ) (p : ℕ × Entry) → stored_at t slot ≡ Some p → key_of p.1.question ≡ key_of q → slot_at t (key_of q) ≡ Some slot
  known_by_key slot p at same = subst (λ k. slot_at t k ≡ Some slot) same (is.known slot p at (λ h. absurd (cc)))

  -- no key leads to an entry for the question
  about_none : slot_at t (key_of q) ≡ None → AreAbout q None (stamped t)
  about_none led = all_from_found (λ (p : ℕ × Entry). is_about q p.1 ≡ false) (stamped t) (by_stamp_ordered t.slots.slots) apart
    where
      apart : (stamp : ℕ) (e : Entry) → found stamp (stamped t) ≡ Some e → is_about q e ≡ false
      apart stamp e at =
          let place = slot_from_found t.slots.slots stamp e at in
          false_from_ne_true (same_key e.question q)
          (λ h. let known = known_by_key place.0 (stamp, e) place.1 (key_from_same e.question q h) in absurd (cc))

  module _ (slot : ℕ) (p : ℕ × Entry) (led : slot_at t (key_of q) ≡ Some slot) (at : stored_at t slot ≡ Some p) where
    stamp_is_found : found p.0 (stamped t) ≡ Some p.1
    stamp_is_found = found_from_slot t.slots.slots is.distinct slot p at

    about_at : (stamp : ℕ) (e : Entry) → found stamp (stamped t) ≡ Some e → is_about q e ≡ (p.0 == stamp)
    about_at stamp e here = split (cases_key (key_of e.question) (key_of q))
      where
        split : (key_of e.question ≡ key_of q) ⊎ (key_of e.question ≡ key_of q → ⊥) → is_about q e ≡ (p.0 == stamp)
        split (inl same) =
            let place = slot_from_found t.slots.slots stamp e here in
            let known : slot_at t (key_of q) ≡ Some place.0 = known_by_key place.0 (stamp, e) place.1 same in
            let slots : slot ≡ place.0 = cc in
            let there : stored_at t slot ≡ Some (stamp, e) = subst (λ s. stored_at t s ≡ Some (stamp, e)) (sym slots) place.1 in
            let entries : Some p ≡ Some (stamp, e) = sym at ∙ there in
            let entry : p ≡ (stamp, e) = cc in
            same_from_key e.question q same ∙ sym (eq-eqb p.0 stamp (ap (λ (x : ℕ × Entry). x.0) entry))
        split (inr differs) =
            false_from_ne_true (same_key e.question q) (λ h. differs (key_from_same e.question q h))
            ∙ sym (ne_eqb p.0 stamp apart)
          where
            apart : p.0 ≡ stamp → ⊥
            apart same =
                let entries : Some p.1 ≡ Some e = sym stamp_is_found ∙ (ap (λ s. found s (stamped t)) same ∙ here) in
                let entry : p.1 ≡ e = cc in
                differs (ap (λ (x : Entry). key_of x.question) (sym entry) ∙ found_by_key slot p led at)

    about_one : AreAbout q (Some p.0) (stamped t)
    about_one = all_from_found (λ (x : ℕ × Entry). is_about q x.1 ≡ (p.0 == x.0)) (stamped t) (by_stamp_ordered t.slots.slots) about_at

    find_there : (now : ℕ) → find (is_current q now) (entries_of t) ≡ unless_due now (Some p.1)
    find_there now = find_one q p.0 now (stamped t) about_one (by_stamp_ordered t.slots.slots) ∙ ap (unless_due now) stamp_is_found

    cleared_there : entries_without (Some slot) t ≡ cleared_of q (entries_of t)
    cleared_there = ap (λ o. values_of (without o (stamped t))) at ∙ sym (clear_one q p.0 (stamped t) about_one (by_stamp_ordered t.slots.slots))

    any_there : list_any (is_about q) (entries_of t) ≡ true
    any_there = any_one q p.0 (stamped t) about_one (ap is_some stamp_is_found)

  -- the current entry for a question, by its slot
  abbrev pub current_of : ℕ → Option ℕ → Option Entry
  current_of now None = None
  current_of now (Some slot) = unless_due now (entry_in (stored_at t slot))

  pub find_by_slot : (now : ℕ) (o : Option ℕ) → slot_at t (key_of q) ≡ o → find (is_current q now) (entries_of t) ≡ current_of now o
  find_by_slot now None led = find_none q now (stamped t) (about_none led)
  find_by_slot now (Some slot) led = split (stored_at t slot) refl
    where
      split : (o : Option (ℕ × Entry)) → stored_at t slot ≡ o → find (is_current q now) (entries_of t) ≡ unless_due now (entry_in (stored_at t slot))
      split None none = let some = slot_is_taken t is (key_of q) slot led in let nothing = ap is_some none in absurd (cc)
      split (Some p) at = find_there slot p led at now ∙ ap (λ x. unless_due now (entry_in x)) (sym at)

  pub cleared_by_slot : (o : Option ℕ) → slot_at t (key_of q) ≡ o → entries_without o t ≡ cleared_of q (entries_of t)
  cleared_by_slot None led = sym (clear_none q (stamped t) (about_none led))
  cleared_by_slot (Some slot) led = split (stored_at t slot) refl
    where
      split : (o : Option (ℕ × Entry)) → stored_at t slot ≡ o → entries_without (Some slot) t ≡ cleared_of q (entries_of t)
      split None none = let some = slot_is_taken t is (key_of q) slot led in let nothing = ap is_some none in absurd (cc)
      split (Some p) at = cleared_there slot p led at

  any_known : (slot : ℕ) → slot_at t (key_of q) ≡ Some slot → list_any (is_about q) (entries_of t) ≡ true
  any_known slot led = split (stored_at t slot) refl
    where
      split : (o : Option (ℕ × Entry)) → stored_at t slot ≡ o → list_any (is_about q) (entries_of t) ≡ true
      split None none = let some = slot_is_taken t is (key_of q) slot led in let nothing = ap is_some none in absurd (cc)
      split (Some p) at = any_there slot p led at

  -- ---- entries that stay

  pub stays_known : (capacity slot : ℕ) → slot_at t (key_of q) ≡ Some slot → entries_without (Some slot) t ≡ staying capacity q (entries_of t)
  stays_known capacity slot led = let any = any_known slot led in rw any (cleared_by_slot (Some slot) led)

  how_many : length (entries_of t) ≡ slab_len t.slots
  how_many = length-map (stamped t) (λ (p : ℕ × Entry). p.1) ∙ by_stamp_length t.slots.slots is.distinct

  pub stays_all : (capacity : ℕ) → slot_at t (key_of q) ≡ None → slab_len t.slots < capacity → entries_without None t ≡ staying capacity q (entries_of t)
  stays_all capacity led room =
      let any = any_none q (stamped t) (about_none led) in
      let fits : nat_lt (length (entries_of t)) capacity ≡ true = lt-ltb (length (entries_of t)) capacity (omega (arith, room, how_many)) in
      rw any (rw fits refl)

  pub stays_evicted : (capacity : ℕ) (o : Option ℕ) → slot_at t (key_of q) ≡ None → capacity ≤ slab_len t.slots
      → entries_without o t ≡ evicted (entries_of t) → entries_without o t ≡ staying capacity q (entries_of t)
  stays_evicted capacity o led full leaves =
      let any = any_none q (stamped t) (about_none led) in
      let fits : nat_lt (length (entries_of t)) capacity ≡ false = le-ltb (length (entries_of t)) capacity (omega (arith, full, how_many)) in
      rw any (rw fits leaves)

-- ---- the entry that is evicted

no_sooner : (p q : ℕ × ℕ × ℕ) → is_gt (due_cmp p q) ≡ false → (p.0 < q.0) ⊎ ((p.0 ≡ q.0) × (p.1 ≤ q.1))
no_sooner p q order = split (cases_order p.0 q.0)
  where
    split : (p.0 ≡ q.0) ⊎ ((p.0 < q.0) ⊎ (q.0 < p.0)) → (p.0 < q.0) ⊎ ((p.0 ≡ q.0) × (p.1 ≤ q.1))
    split (inl tie) = let later : p.1 ≤ q.1 = grind (arith, nat_tests) in inr (tie, later)
    split (inr (inl sooner)) = inl sooner
    split (inr (inr later)) = absurd (grind (arith, nat_tests))

module _ (t : EntryTable) (is : IsIndexed None t) where
  due_at : (slot : ℕ) (p : ℕ × Entry) → stored_at t slot ≡ Some p → is_due t p.1.deadline p.0 slot ≡ true
  due_at slot p at =
      is.timely p.1.deadline p.0 slot
      ∙ (ap (is_dated p.1.deadline p.0) at ∙ and_from (p.1.deadline == p.1.deadline) (p.0 == p.0) (eq-eqb p.1.deadline p.1.deadline refl) (eq-eqb p.0 p.0 refl))

  pub due_is_present : (deadline stamp slot : ℕ) → is_due t deadline stamp slot ≡ true → IsSome (stored_at t slot)
  due_is_present deadline stamp slot due = split (stored_at t slot) refl
    where
      split : (o : Option (ℕ × Entry)) → stored_at t slot ≡ o → IsSome (stored_at t slot)
      split None none = let missing = sym (is.timely deadline stamp slot ∙ ap (is_dated deadline stamp) none) in absurd (cc)
      split (Some p) at = ap is_some at

  pub evicted_first : (deadline stamp slot : ℕ) → is_due t deadline stamp slot ≡ true → sorted.IsLowerBound due_cmp t.timeline (deadline, stamp, slot)
      → entries_without (Some slot) t ≡ evicted (entries_of t)
  evicted_first deadline stamp slot due least = split (stored_at t slot) refl
    where
      later : (other : ℕ) (e : Entry) → found other (stamped t) ≡ Some e → (deadline < e.deadline) ⊎ ((deadline ≡ e.deadline) × (stamp ≤ other))
      later other e at =
          let place = slot_from_found t.slots.slots other e at in
          no_sooner (deadline, stamp, slot) (e.deadline, other, place.0) (least (e.deadline, other, place.0) (due_at place.0 (other, e) place.1))

      first : (p : ℕ × Entry) → p.1.deadline ≡ deadline → p.0 ≡ stamp → IsFirstDue p.1.deadline p.0 (stamped t)
      first p on_time same =
          subst (λ d. IsFirstDue d p.0 (stamped t)) (sym on_time)
          (subst (λ s. IsFirstDue deadline s (stamped t)) (sym same)
          (all_from_found (λ (x : ℕ × Entry). (deadline < x.1.deadline) ⊎ ((deadline ≡ x.1.deadline) × (stamp ≤ x.0))) (stamped t) (by_stamp_ordered t.slots.slots) later))

      split : (o : Option (ℕ × Entry)) → stored_at t slot ≡ o → entries_without (Some slot) t ≡ evicted (entries_of t)
      split None none = let missing = sym (is.timely deadline stamp slot ∙ ap (is_dated deadline stamp) none) in absurd (cc)
      split (Some p) at =
          let parts = and_parts (p.1.deadline == deadline) (p.0 == stamp) (sym (ap (is_dated deadline stamp) at) ∙ (sym (is.timely deadline stamp slot) ∙ due)) in
          ap (λ o. values_of (without o (stamped t))) at
          ∙ sym (evict_first p.0 p.1 (stamped t) (found_from_slot t.slots.slots is.distinct slot p at)
          (first p (eqb-true p.1.deadline deadline parts.0) (eqb-true p.0 stamp parts.1)) (by_stamp_ordered t.slots.slots))

  pub evicted_none : length t.timeline.keys ≡ 0 → entries_without None t ≡ evicted (entries_of t)
  evicted_none none = split (stamped t) refl t.timeline.keys refl
    where
      -- no entry is found, as none is due
      absent : t.timeline.keys ≡ [] → (stamp : ℕ) (e : Entry) → found stamp (stamped t) ≡ Some e → ⊥
      absent due stamp e at =
          let place = slot_from_found t.slots.slots stamp e at in
          let here = due_at place.0 (stamp, e) place.1 in
          let missing : is_due t e.deadline stamp place.0 ≡ false = ap (list_any (tree.is_at (due_cmp (e.deadline, stamp, place.0)))) due in
          cc

      split : (es : List (ℕ × Entry)) → stamped t ≡ es → (ds : List (ℕ × ℕ × ℕ)) → t.timeline.keys ≡ ds → entries_without None t ≡ evicted (entries_of t)
      split [] empty ds some = ap values_of empty ∙ sym (ap (λ xs. evicted (values_of xs)) empty)
      split (p ∷ es) some (d ∷ ds) due = absurd (omega (arith, none, ap length due))
      split (p ∷ es) some [] due = absurd (absent due p.0 p.1 (ap (found p.0) some ∙ found_first p es))

-- ---- entries that are numbered anew

-- the entries with lower stamps than that of the question's are not for it
front_none : (q : Query) (stamp : ℕ) (es : List (ℕ × Entry)) (n : ℕ) → AreAbout q (Some stamp) es
    → ((i d : ℕ) → i < n → nat_cmp (get_or (keys_of es) i d) stamp ≡ Less) → AreAbout q None (take n es)
front_none q stamp es zero about lower = tt
front_none q stamp [] (suc n) about lower = tt
front_none q stamp (p ∷ es) (suc n) about lower =
    let first : nat_cmp p.0 stamp ≡ Less = lower 0 0 (omega arith) in
    let below : p.0 < stamp = grind (arith, nat_tests) in
    (about.0 ∙ ne_eqb stamp p.0 (λ same. omega (arith, same, below)), front_none q stamp es n about.1 (λ i d h. lower (suc i) d (omega (arith, h))))

-- no entry of a copy of the first entries of a table is for the question of the next one
pub next_unknown : (t copy : EntryTable) (e : Entry) (stamp n : ℕ) → IsIndexed None t → IsIndexed None copy
    → entries_of copy ≡ values_of (take n (stamped t)) → found stamp (stamped t) ≡ Some e
    → ((i d : ℕ) → i < n → nat_cmp (get_or (keys_of (stamped t)) i d) stamp ≡ Less) → slot_at copy (key_of e.question) ≡ None
next_unknown t copy e stamp n is copied same at lower = split (slot_at copy (key_of e.question)) refl
  where
    place : (slot : ℕ) × (stored_at t slot ≡ Some (stamp, e))
    place = slot_from_found t.slots.slots stamp e at

    led : slot_at t (key_of e.question) ≡ Some place.0
    led = is.known place.0 (stamp, e) place.1 (λ h. absurd (cc))

    none : list_any (is_about e.question) (entries_of copy) ≡ false
    none =
        ap (list_any (is_about e.question)) same
        ∙ any_none e.question (take n (stamped t)) (front_none e.question stamp (stamped t) n
        (about_one t is e.question place.0 (stamp, e) led place.1) lower)

    split : (o : Option ℕ) → slot_at copy (key_of e.question) ≡ o → slot_at copy (key_of e.question) ≡ None
    split None unknown = unknown
    split (Some other) known =
        let any = any_known copy copied e.question other known in
        let never = none in
        absurd (cc)

-- a copy of the first entries, where the others are left
pub copied_front : (copy : List Entry) (all done left : List (ℕ × Entry)) → copy ++ values_of left ≡ values_of all → all ≡ done ++ left → copy ≡ values_of (take (length done) all)
copied_front copy all done left whole split =
    append_cancel_right copy (values_of done) (values_of left) (whole ∙ (ap values_of split ∙ map-append (λ (p : ℕ × Entry). p.1) done left))
    ∙ ap values_of (sym (ap (take (length done)) split ∙ take_at done left (length done) refl))

-- a copy with an entry more
pub copied_more : (old new : List (ℕ × Entry)) (next stamp : ℕ) (e : Entry) (left rest : List (ℕ × Entry)) (all : List Entry) → values_of old ++ values_of left ≡ all
    → left ≡ (stamp, e) ∷ rest → new ≡ old ++ (next, e) ∷ [] → values_of new ++ values_of rest ≡ all
copied_more old new next stamp e left rest all whole first more =
    ap (λ xs. xs ++ values_of rest) (ap values_of more ∙ map-append (λ (p : ℕ × Entry). p.1) old ((next, e) ∷ []))
    ∙ (append_assoc (values_of old) (e ∷ []) (values_of rest) ∙ (ap (λ xs. values_of old ++ values_of xs) (sym first) ∙ whole))

-- a copy is numbered without gaps
pub copied_number : (old new : List (ℕ × Entry)) (next : ℕ) (e : Entry) → next ≡ length (values_of old) → new ≡ old ++ (next, e) ∷ [] → next + 1 ≡ length (values_of new)
copied_number old new next e number more =
    omega (arith, number, ap length more, length-append old ((next, e) ∷ []), length-map old (λ (p : ℕ × Entry). p.1), length-map new (λ (p : ℕ × Entry). p.1))

-- ---- an entry is appended, and another one leaves

-- the entries of a table with one more
pub appended_last : (old : EntryTable) (new : List (Option (ℕ × Entry))) (slot : ℕ) (e : Entry) → IsIndexed None old → stored_at old slot ≡ None → stored new slot ≡ Some (old.next_stamp, e)
    → ((other : ℕ) → (other ≡ slot → ⊥) → stored new other ≡ stored_at old other) → by_stamp new ≡ stamped old ++ (old.next_stamp, e) ∷ []
appended_last old new slot e before free here others =
    by_stamp_taken old.slots.slots new slot (old.next_stamp, e) free here others
    (taken_apart old.slots.slots new slot (old.next_stamp, e) here others before.distinct (λ other q is same. let lower = before.fresh other q is in omega (arith, lower, same)))
    ∙ insert_last (stamped old) old.next_stamp e (all_below None old before)

-- the entries of a table without one
pub removed_entries : (old : EntryTable) (new : List (Option (ℕ × Entry))) (slot : ℕ) (p : ℕ × Entry) (leaving : Option ℕ) → IsIndexed leaving old → stored_at old slot ≡ Some p → stored new slot ≡ None
    → ((other : ℕ) → (other ≡ slot → ⊥) → stored new other ≡ stored_at old other) → values_of (by_stamp new) ≡ entries_without (Some slot) old
removed_entries old new slot p leaving before here free others =
    ap values_of (sym (by_stamp_freed new old.slots.slots slot p free here (λ other differs. sym (others other differs)) before.distinct))
    ∙ sym (ap (λ o. values_of (without o (stamped old))) here)

pub appended_without : (old mid : EntryTable) (stamp : ℕ) (e : Entry) (o : Option ℕ) → IsIndexed None old → stamped mid ≡ stamped old ++ (stamp, e) ∷ []
    → ((slot : ℕ) → IsSome (stored_at old slot) → stored_at mid slot ≡ stored_at old slot)
    → IfSome o (λ slot. IsSome (stored_at old slot)) → entries_without o mid ≡ entries_without o old ++ e ∷ []
appended_without old mid stamp e None is more kept present = ap values_of more ∙ map-append (λ (p : ℕ × Entry). p.1) (stamped old) ((stamp, e) ∷ [])
appended_without old mid stamp e (Some slot) is more kept present = split (stored_at old slot) refl
  where
    split : (o : Option (ℕ × Entry)) → stored_at old slot ≡ o → entries_without (Some slot) mid ≡ entries_without (Some slot) old ++ e ∷ []
    split None none = let nothing = ap is_some none in absurd (cc)
    split (Some p) at =
        ap (λ o. values_of (without o (stamped mid))) (kept slot present ∙ at)
        ∙ (ap (λ es. values_of (remove_entry (tree.is_at (nat_cmp p.0)) es)) more
        ∙ (ap values_of (remove_before (stamped old) ((stamp, e) ∷ []) p.0 (ap is_some (found_from_slot old.slots.slots is.distinct slot p at)))
        ∙ (map-append (λ (x : ℕ × Entry). x.1) (remove_entry (tree.is_at (nat_cmp p.0)) (stamped old)) ((stamp, e) ∷ [])
        ∙ ap (λ xs. xs ++ e ∷ []) (sym (ap (λ o. values_of (without o (stamped old))) at)))))

-- no first deadline
pub no_first : {X : Type 0} (o : Option X) (n : ℕ) → (0 < n → IsSome o) → o ≡ None → n ≡ 0
no_first o zero some none = refl
no_first o (suc n) some none = let first = some (omega arith) in absurd (cc)
