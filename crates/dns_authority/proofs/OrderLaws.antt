-- The sets of a name, one type after another, in the order of their types.
use Rattle.std.proofs.Common.{◌≡◌, ◌==◌, ◌+◌, ◌<◌, ◌≤◌, ◌++◌, ◌||◌, not, cond, Bool, true, false, ℕ, zero, suc, List, [], ◌∷◌, map, refl, sym, ap, subst, ◌∙◌, arith}
use Rattle.std.proofs.lemmas.Bool.Decides.{nat_tests}
use Rattle.std.specs.Prelude.{⊤}
use Rattle.std.specs.List.{filter, flat_map, list_any, range_with_len, AllByRecursion}
use Rattle.dns_records.specs.declared.row.Row.{Row}
use Rattle.dns_updates.specs.Keys.{number_code}
use Rattle.dns_authority.specs.Asked.{filled, first_filled, numbers_below}

-- whether a number is among others
abbrev pub is_among : ℕ → List ℕ → Bool
is_among number numbers = list_any (λ m. number == m) numbers

-- numbers in strictly ascending order of their places
abbrev pub Ascends : List ℕ → Type 0
Ascends [] = ⊤
Ascends (n ∷ ns) = AllByRecursion (λ m. number_code n < number_code m) ns × Ascends ns

-- numbers in strictly ascending order, from one on
abbrev Rises : ℕ → List ℕ → Type 0
Rises low [] = ⊤
Rises low (n ∷ ns) = (low ≤ n) × Rises (n + 1) ns

weaken : {P Q : ℕ → Type 0} → ((n : ℕ) → P n → Q n) → (ns : List ℕ) → AllByRecursion P ns → AllByRecursion Q ns
weaken f [] all = tt
weaken f (n ∷ ns) all = (f n all.0, weaken f ns all.1)

-- ---- codes

code_other : (n : ℕ) → (n == 6) ≡ false → number_code n ≡ n + 1
code_other n e = ap (λ (b : Bool). cond b 0 (n + 1)) e

after_code : (low n : ℕ) → low < number_code n → low ≤ n
after_code low n h = by (n == 6) refl
  where
    by : (b : Bool) → (n == 6) ≡ b → low ≤ n
    by true e = let zero_code : number_code n ≡ 0 = ap (λ (b : Bool). cond b 0 (n + 1)) e in omega arith
    by false e = let c : number_code n ≡ n + 1 = code_other n e in omega arith

other_of_code : (low n : ℕ) → low < number_code n → (n == 6) ≡ false
other_of_code low n h = by (n == 6) refl
  where
    by : (b : Bool) → (n == 6) ≡ b → (n == 6) ≡ false
    by true e = let zero_code : number_code n ≡ 0 = ap (λ (b : Bool). cond b 0 (n + 1)) e in absurd (omega arith)
    by false e = e

rises : (low : ℕ) (ns : List ℕ) → Ascends ns → AllByRecursion (λ m. low < number_code m) ns → Rises low ns
rises low [] up after = tt
rises low (n ∷ ns) up after =
    let c : number_code n ≡ n + 1 = code_other n (other_of_code low n after.0) in
    (after_code low n after.0, rises (n + 1) ns up.1 (weaken (λ m (h : number_code n < number_code m). next n m c h) ns up.0))
  where
    next : (n m : ℕ) → number_code n ≡ n + 1 → number_code n < number_code m → n + 1 < number_code m
    next n m c h = omega arith

-- ---- sets that have rows

-- all sets, one after another
abbrev pub joined : List (List Row) → List Row
joined [] = []
joined (rows ∷ sets) = rows ++ joined sets

-- the first of several sets
abbrev pub first_of : List (List Row) → List Row
first_of [] = []
first_of (rows ∷ sets) = rows

filled_cons : (here : List Row) (xs ys : List (List Row)) → filled xs ≡ filled ys → filled (here ∷ xs) ≡ filled (here ∷ ys)
filled_cons [] xs ys e = e
filled_cons (row ∷ rows) xs ys e = ap (λ sets. (row ∷ rows) ∷ sets) e

filled_empty : (here : List Row) (xs : List (List Row)) → here ≡ [] → filled xs ≡ filled (here ∷ xs)
filled_empty here xs e = ap (λ rows. filled (rows ∷ xs)) (sym e)

pub joined_filled : (xs : List (List Row)) → joined xs ≡ joined (filled xs)
joined_filled [] = refl
joined_filled ([] ∷ xs) = joined_filled xs
joined_filled ((row ∷ rows) ∷ xs) = ap (λ more. (row ∷ rows) ++ more) (joined_filled xs)

pub first_is : (xs : List (List Row)) → first_filled xs ≡ first_of (filled xs)
first_is [] = refl
first_is ([] ∷ xs) = first_is xs
first_is ((row ∷ rows) ∷ xs) = refl

pub joined_sets : {X : Type 0} (rows : X → List Row) (xs : List X) → flat_map rows xs ≡ joined (map rows xs)
joined_sets rows [] = refl
joined_sets rows (x ∷ xs) = ap (λ more. rows x ++ more) (joined_sets rows xs)

-- ---- all numbers from one on

module _ (rows : ℕ → List Row) where
  before : (number low : ℕ) (ns : List ℕ) → number < low → Rises low ns → is_among number ns ≡ false
  before number low [] h up = refl
  before number low (n ∷ ns) h up =
      let least : low ≤ n = up.0 in
      let apart : (number == n) ≡ false = grind (arith, nat_tests) in
      ap (λ b. b || is_among number ns) apart ∙ before number (n + 1) ns (omega arith) up.1

  abbrev None : ℕ → List ℕ → Type 0
  None low ns = (n : ℕ) → low ≤ n → is_among n ns ≡ false → rows n ≡ []

  abbrev Each : ℕ → ℕ → List ℕ → Type 0
  Each low count ns = Rises low ns → AllByRecursion (λ n. n < low + count) ns → None low ns
      → filled (map rows ns) ≡ filled (map rows (range_with_len low count))

  each_number : (low count : ℕ) (ns : List ℕ) → Each low count ns
  each_number low zero [] up below none = refl
  each_number low zero (n ∷ ns) up below none = let least : low ≤ n = up.0 in let most : n < low + 0 = below.0 in absurd (omega arith)
  each_number low (suc count) [] up below none =
      each_number (low + 1) count [] tt tt (λ n h f. none n (omega arith) f)
      ∙ filled_empty (rows low) (map rows (range_with_len (low + 1) count)) (none low (omega arith) refl)
  each_number low (suc count) (n ∷ ns) up below none = by (low == n) refl (each_number (low + 1) count ns) (each_number (low + 1) count (n ∷ ns))
    where
      shifted : AllByRecursion (λ k. k < low + suc count) ns → AllByRecursion (λ k. k < (low + 1) + count) ns
      shifted all = weaken (λ k (h : k < low + suc count). omega arith) ns all

      by : (b : Bool) → (low == n) ≡ b → Each (low + 1) count ns → Each (low + 1) count (n ∷ ns)
          → filled (map rows (n ∷ ns)) ≡ filled (map rows (range_with_len low (suc count)))
      by true e here later =
          let same : low ≡ n = grind (arith, nat_tests) in
          let rest : filled (map rows ns) ≡ filled (map rows (range_with_len (low + 1) count)) =
          here (subst (λ (k : ℕ). Rises (k + 1) ns) (sym same) up.1) (shifted below.1)
          (λ k h f.
          let apart : (k == n) ≡ false = grind (arith, nat_tests) in
          none k (omega arith) (ap (λ b. b || is_among k ns) apart ∙ f)) in
          ap (λ (k : ℕ). filled (rows k ∷ map rows ns)) (sym same) ∙ filled_cons (rows low) (map rows ns) (map rows (range_with_len (low + 1) count)) rest
      by false e here later =
          let least : low ≤ n = up.0 in
          let apart : low < n = grind (arith, nat_tests) in
          later (omega arith, up.1) (weaken (λ k (h : k < low + suc count). omega arith) (n ∷ ns) below) (λ k h f. none k (omega arith) f)
          ∙ filled_empty (rows low) (map rows (range_with_len (low + 1) count)) (none low (omega arith) (before low (low + 1) (n ∷ ns) (omega arith) (omega arith, up.1)))

-- ---- all but one

module _ (rows : ℕ → List Row) where
  -- the sets of all types but SOA
  abbrev others : ℕ → List Row
  others n = cond (n == 6) [] (rows n)

  all_but : (ns : List ℕ) → filled (map rows (filter (λ n. not (n == 6)) ns)) ≡ filled (map others ns)
  all_but [] = refl
  all_but (n ∷ ns) = by (n == 6) (all_but ns)
    where
      by : (b : Bool) → filled (map rows (filter (λ n. not (n == 6)) ns)) ≡ filled (map others ns)
          → filled (map rows (cond (not b) (n ∷ filter (λ n. not (n == 6)) ns) (filter (λ n. not (n == 6)) ns))) ≡ filled (cond b [] (rows n) ∷ map others ns)
      by true more = more
      by false more = filled_cons (rows n) (map rows (filter (λ n. not (n == 6)) ns)) (map others ns) more

  without : (ns : List ℕ) → AllByRecursion (λ m. 0 < number_code m) ns → map rows ns ≡ map others ns
  without [] after = refl
  without (n ∷ ns) after =
      λ i. ap (λ (b : Bool). cond b [] (rows n)) (sym (other_of_code 0 n after.0)) i ∷ without ns after.1 i

  -- the sets of types after SOA
  later_sets : (bound : ℕ) (ns : List ℕ) → Ascends ns → AllByRecursion (λ m. 0 < number_code m) ns → AllByRecursion (λ n. n < bound) ns
      → ((n : ℕ) → (n == 6) ≡ false → is_among n ns ≡ false → rows n ≡ [])
      → filled (map rows ns) ≡ filled (map rows (filter (λ n. not (n == 6)) (range_with_len 0 bound)))
  later_sets bound ns up after below none =
      ap filled (without ns after)
      ∙ each_number others 0 bound ns (rises 0 ns up after) (weaken (λ k (h : k < bound). omega arith) ns below) (λ n h f. empty n (n == 6) refl f)
      ∙ sym (all_but (range_with_len 0 bound))
    where
      empty : (n : ℕ) (b : Bool) → (n == 6) ≡ b → is_among n ns ≡ false → cond (n == 6) [] (rows n) ≡ []
      empty n true e f = ap (λ (b : Bool). cond b [] (rows n)) e
      empty n false e f = ap (λ (b : Bool). cond b [] (rows n)) e ∙ none n e f

  absent : (ns : List ℕ) → AllByRecursion (λ m. 0 < number_code m) ns → is_among 6 ns ≡ false
  absent [] after = refl
  absent (n ∷ ns) after =
      let other : (n == 6) ≡ false = other_of_code 0 n after.0 in
      let apart : (6 == n) ≡ false = grind (arith, nat_tests) in
      ap (λ b. b || is_among 6 ns) apart ∙ absent ns after.1

  -- the types of a name, in the order of their sets, have the sets of all types
  pub all_sets : (bound : ℕ) (ns : List ℕ) → Ascends ns → AllByRecursion (λ n. n < bound) ns
      → ((n : ℕ) → is_among n ns ≡ false → rows n ≡ [])
      → filled (map rows ns) ≡ filled (map rows (numbers_below bound))
  unfolding numbers_below
  all_sets bound [] up below none =
      later_sets bound [] tt tt tt (λ n e f. none n f)
      ∙ filled_empty (rows 6) (map rows (filter (λ n. not (n == 6)) (range_with_len 0 bound))) (none 6 refl)
  all_sets bound (n ∷ ns) up below none = by (n == 6) refl
    where
      more : List (List Row)
      more = map rows (filter (λ n. not (n == 6)) (range_with_len 0 bound))

      by : (b : Bool) → (n == 6) ≡ b → filled (map rows (n ∷ ns)) ≡ filled (rows 6 ∷ map rows (filter (λ n. not (n == 6)) (range_with_len 0 bound)))
      by true e =
          let same : n ≡ 6 = grind (arith, nat_tests) in
          let first : number_code n ≡ 0 = ap (λ (b : Bool). cond b 0 (n + 1)) e in
          ap (λ (k : ℕ). filled (rows k ∷ map rows ns)) same
          ∙ filled_cons (rows 6) (map rows ns) more
          (later_sets bound ns up.1 (weaken (λ m (h : number_code n < number_code m). omega arith) ns up.0) below.1
          (λ k f g. none k (ap (λ (j : ℕ). (k == j) || is_among k ns) same ∙ ap (λ b. b || is_among k ns) f ∙ g)))
      by false e =
          let first : number_code n ≡ n + 1 = code_other n e in
          let later : AllByRecursion (λ m. 0 < number_code m) (n ∷ ns) = (omega arith, weaken (λ m (h : number_code n < number_code m). omega arith) ns up.0) in
          later_sets bound (n ∷ ns) up later below (λ k f g. none k g)
          ∙ filled_empty (rows 6) more
          (none 6 (absent (n ∷ ns) later))
