-- How many entries stay.
use Rattle.std.proofs.Common.{◌≡◌, ℕ, ◌<◌, ◌≤◌, Bool, true, false, List, [], ◌∷◌, ◌++◌, length, refl, arith, length-append}
use Rattle.std.specs.Prelude.{cond, not, nat_lt, ◌||◌, ◌==◌}
use Rattle.std.specs.List.{list_any}
use Rattle.std.proofs.lemmas.Bool.{ltb-true, ltb-false, eqb-false}
use Rattle.dns_messages.specs.declared.query.Query.{Query}
use Rattle.stub_cache.specs.Cache.{cleared_of, evicted, inserted, is_about, is_first_due, staying}
use Rattle.stub_cache.specs.declared.cache.entry.Entry.{Entry}

-- ---- how many entries there are

abbrev without_first : Bool → Entry → List Entry → List Entry
without_first b e es = cond b es (e ∷ evicted es)

module _ (e x : Entry) (xs : List Entry) (fewer : length (evicted (x ∷ xs)) < length (x ∷ xs)) where
  one_evicted : (b : Bool) → length (without_first b e (x ∷ xs)) < length (e ∷ x ∷ xs)
  one_evicted true = omega arith
  one_evicted false = omega (arith, fewer)

length_evicted : (es : List Entry) → 0 < length es → length (evicted es) < length es
length_evicted [] some = absurd (omega (arith, some))
length_evicted (e ∷ []) some = omega arith
length_evicted (e ∷ x ∷ xs) some = one_evicted e x xs (length_evicted (x ∷ xs) (omega arith)) (is_first_due e (x ∷ xs))

module _ (e : Entry) (es rest : List Entry) where
  no_more : (b : Bool) → length rest ≤ length es → length (cond (not b) (e ∷ rest) rest) ≤ length (e ∷ es)
  no_more true le = omega (arith, le)
  no_more false le = omega (arith, le)

  one_less : (b any : Bool) → (b || any) ≡ true → length rest ≤ length es → (any ≡ true → length rest < length es)
      → length (cond (not b) (e ∷ rest) rest) < length (e ∷ es)
  one_less true any some le less = omega (arith, le)
  one_less false any some le less = let fewer = less some in omega (arith, fewer)

length_cleared : (q : Query) (es : List Entry) → length (cleared_of q es) ≤ length es
length_cleared q [] = omega arith
length_cleared q (e ∷ es) = no_more e es (cleared_of q es) (is_about q e) (length_cleared q es)

pub fewer_cleared : (q : Query) (es : List Entry) → list_any (is_about q) es ≡ true → length (cleared_of q es) < length es
fewer_cleared q [] some = absurd (cc)
fewer_cleared q (e ∷ es) some =
    one_less e es (cleared_of q es) (is_about q e) (list_any (is_about q) es) some (length_cleared q es) (fewer_cleared q es)

module _ (capacity : ℕ) (es : List Entry) (within : length es ≤ capacity) where
  unless_full : (full : Bool) → nat_lt (length es) capacity ≡ full → 0 < capacity → length (cond full es (evicted es)) < capacity
  unless_full true is some = ltb-true (length es) capacity is
  unless_full false is some =
      let all : capacity ≤ length es = ltb-false (length es) capacity is in
      let fewer = length_evicted es (omega (arith, all, some)) in
      omega (arith, fewer, within)

  unless_known : (q : Query) (known : Bool) → list_any (is_about q) es ≡ known → 0 < capacity
      → length (cond known (cleared_of q es) (cond (nat_lt (length es) capacity) es (evicted es))) < capacity
  unless_known q true is some = let fewer = fewer_cleared q es is in omega (arith, fewer, within)
  unless_known q false is some = unless_full (nat_lt (length es) capacity) refl some

  unless_none : (e : Entry) (none : Bool) → (capacity == 0) ≡ none → length (cond none es (staying capacity e.question es ++ e ∷ [])) ≤ capacity
  unless_none e true is = within
  unless_none e false is =
      let differs = eqb-false capacity 0 is in
      let some : 0 < capacity = omega (arith, differs) in
      let room = unless_known e.question (list_any (is_about e.question) es) refl some in
      omega (arith, length-append (staying capacity e.question es) (e ∷ []), room)

  -- an entry more, and no more entries than there may be
  pub inserted_within : (e : Entry) → length (inserted capacity es e) ≤ capacity
  inserted_within e = unless_none e (capacity == 0) refl
