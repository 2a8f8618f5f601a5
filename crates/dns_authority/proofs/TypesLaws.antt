-- The types of the sets of a name: their sets are all that the name has.
use Rattle.std.proofs.Common.{◌≡◌, ◌≢◌, ◌==◌, ◌<◌, ◌&&◌, ◌||◌, cond, Bool, true, false, ℕ, List, [], ◌∷◌, length, map, refl, sym, ap, subst, ◌∙◌, arith, Option, Some, None, Ordering, Less, Equal, unwrap_or}
use Rattle.std.proofs.lemmas.List.{length-map}
use Rattle.std.proofs.lemmas.Bool.Decides.{nat_tests}
use Rattle.std.specs.Prelude.{IfOk}
use Rattle.std.specs.Cmp.{tied_itself, ranked}
use Rattle.std.specs.Cmp.Lexicographic.{slice_cmp, nat_list_cmp_total}
use Rattle.std.specs.Global.{Vec}
use Rattle.std.specs.List as list
use Rattle.std.specs.List.{filter, list_any, AllByRecursion}
use Rattle.std.specs.List.Sorted.{IsStrictlySortedBy}
use Rattle.std.specs.Ordering.{nat_cmp, ordering_then}
use Rattle.std.specs.declared.alloc.AllocError.{AllocError}
use Rattle.std.specs.declared.result.Result.{Result}
use Rattle.std.specs.declared.result.Result.TheVariants.{Ok, Err}
use Rattle.dns_wire.specs.codes.RecordType.{type_number, type_of}
use Rattle.dns_wire.specs.declared.codes.record_type.RecordType.{RecordType}
use Rattle.dns_names.specs.Compare.{same_labels}
use Rattle.dns_names.specs.internal.Compare.{same-lower}
use Rattle.dns_data.specs.rdata.{data_type}
use Rattle.dns_records.specs.Record.{Record}
use Rattle.dns_records.specs.RecordSet.{RecordSetValue}
use Rattle.dns_records.specs.declared.row.Row.{Row}
use Rattle.dns_updates.specs.Keys.{number_code, owner_code, place_cmp, type_code}
use Rattle.dns_updates.proofs.OwnerCodeLaws.{owner_of_lower}
use Rattle.dns_zone.specs.Lookup.{AreSetsOf}
use Rattle.dns_zone.specs.Rows.{Key, key, row_of, rows_at, rows_of, rows_of_sets, AreSoundRows, AreSoundSets, IsSoundSet, Rows, ZoneContent}
use Rattle.dns_zone.specs.Sets.{set_place, AreInOrder}
use Rattle.dns_zone.proofs.RowLaws.{get-sets, keys_tie, no_rows_at, rows_if, tied}
use Rattle.dns_authority.specs.Asked.{any_numbers, filled, rows_by_number}
use Rattle.dns_authority.proofs.OrderLaws.{all_sets, is_among, Ascends}

weaken : {P Q : RecordType → Type 0} → ((t : RecordType) → P t → Q t) → (ts : List RecordType) → AllByRecursion P ts → AllByRecursion Q ts
weaken f [] all = tt
weaken f (t ∷ ts) all = (f t all.0, weaken f ts all.1)

or_false : (a b : Bool) → (a || b) ≡ false → (a ≡ false) × (b ≡ false)
or_false true b e = absurd (cc)
or_false false b e = (refl, e)

or_true : (a b : Bool) → b ≡ true → (a || b) ≡ true
or_true true b e = refl
or_true false b e = e

itself : (n : ℕ) → (n == n) ≡ true
itself n = grind (arith, nat_tests)

-- a set with a row stays
kept : (here : List Row) (xs ys : List (List Row)) → length here ≢ 0 → filled xs ≡ ys → filled (here ∷ xs) ≡ here ∷ ys
kept [] xs ys some e = absurd (some refl)
kept (row ∷ rows) xs ys some e = ap (λ (sets : List (List Row)). (row ∷ rows) ∷ sets) e

all_kept : (rows : RecordType → List Row) (ts : List RecordType) → AllByRecursion (λ t. length (rows t) ≢ 0) ts → filled (map rows ts) ≡ map rows ts
all_kept rows [] all = refl
all_kept rows (t ∷ ts) all = kept (rows t) (map rows ts) (map rows ts) all.0 (all_kept rows ts all.1)

-- the number of the type of a set has 16 bits
set_fits : (s : RecordSetValue) → IsSoundSet s → type_number s.record_type < 65536
set_fits s sound = by s.records sound.filled sound.rows sound.of_type
  where
    by : (rs : List Record) → 0 < length rs → AreSoundRows (rows_of rs) → AllByRecursion (λ (r : Record). data_type r.rdata ≡ s.record_type) rs → type_number s.record_type < 65536
    by [] some rows types = absurd (omega arith)
    by (r ∷ rs) some rows types = subst (λ (t : RecordType). type_number t < 65536) types.0 rows.0.rdata.sound.type_fits

-- a set at a key has a row
found_filled : (q : Key) (sets : List RecordSetValue) → AreSoundSets sets → list_any (tied q) sets ≡ true → length (unwrap_or (rows_if (list.find (tied q) sets)) []) ≢ 0
unfolding rows_if
found_filled q [] sound some = absurd (cc)
found_filled q (s ∷ sets) sound some = by (tied q s) some (found_filled q sets sound.1)
  where
    by : (b : Bool) → (b || list_any (tied q) sets) ≡ true → (list_any (tied q) sets ≡ true → length (unwrap_or (rows_if (list.find (tied q) sets)) []) ≢ 0)
        → length (unwrap_or (rows_if (cond b (Some s) (list.find (tied q) sets))) []) ≢ 0
    by true e more none = absurd (omega (arith, sound.0.filled, length-map s.records row_of))
    by false e more none = more e none

module _ (round : (number : ℕ) → type_number (type_of number) ≡ number) (owner : List (List ℕ)) where
  -- the sets of the owner, their types, and the numbers of these
  abbrev is_of : RecordSetValue → Bool
  is_of s = same_labels owner s.name.labels

  abbrev types_in : List RecordSetValue → List RecordType
  types_in sets = map (λ (s : RecordSetValue). s.record_type) (filter is_of sets)

  abbrev numbers_in : List RecordSetValue → List ℕ
  numbers_in sets = map type_number (types_in sets)

  -- the types of some of these sets
  abbrev types_with : Bool → RecordSetValue → List RecordSetValue → List RecordType
  types_with b s sets = map (λ (x : RecordSetValue). x.record_type) (cond b (s ∷ filter is_of sets) (filter is_of sets))

  -- ---- order

  after_first : (s x : RecordSetValue) → is_of s ≡ true → is_of x ≡ true → place_cmp (set_place s) (set_place x) ≡ Less → number_code (type_number s.record_type) < number_code (type_number x.record_type)
  after_first s x here there less =
      let same : owner_code s.name.labels ≡ owner_code x.name.labels =
      sym (owner_of_lower owner s.name.labels (same-lower owner s.name.labels here)) ∙ owner_of_lower owner x.name.labels (same-lower owner x.name.labels there) in
      let tie : slice_cmp nat_cmp (owner_code s.name.labels) (owner_code x.name.labels) ≡ Equal =
      ap (slice_cmp nat_cmp (owner_code s.name.labels)) (sym same) ∙ tied_itself nat_list_cmp_total (owner_code s.name.labels) in
      ranked (type_code s.record_type) (type_code x.record_type) Less
      (sym (sym (ap (λ (r : Ordering). ordering_then r (nat_cmp (type_code s.record_type) (type_code x.record_type))) tie) ∙ less))

  all_after : (s : RecordSetValue) (sets : List RecordSetValue) → is_of s ≡ true → AllByRecursion (λ p. place_cmp (set_place s) p ≡ Less) (map set_place sets)
      → AllByRecursion (λ m. number_code (type_number s.record_type) < number_code m) (numbers_in sets)
  all_after s [] here all = tt
  all_after s (x ∷ sets) here all = by (is_of x) refl (all_after s sets here all.1)
    where
      by : (b : Bool) → is_of x ≡ b → AllByRecursion (λ m. number_code (type_number s.record_type) < number_code m) (numbers_in sets)
          → AllByRecursion (λ m. number_code (type_number s.record_type) < number_code m) (map type_number (types_with b x sets))
      by true e more = (after_first s x here e all.0, more)
      by false e more = more

  ascends : (sets : List RecordSetValue) → AreInOrder sets → Ascends (numbers_in sets)
  unfolding IsStrictlySortedBy
  ascends [] sorted = tt
  ascends (s ∷ sets) sorted = by (is_of s) refl (ascends sets sorted.1)
    where
      by : (b : Bool) → is_of s ≡ b → Ascends (numbers_in sets) → Ascends (map type_number (types_with b s sets))
      by true e more = (all_after s sets e sorted.0, more)
      by false e more = more

  -- ---- what they are

  fit : (sets : List RecordSetValue) → AreSoundSets sets → AllByRecursion (λ n. n < 65536) (numbers_in sets)
  fit [] sound = tt
  fit (s ∷ sets) sound = by (is_of s) (fit sets sound.1)
    where
      by : (b : Bool) → AllByRecursion (λ n. n < 65536) (numbers_in sets) → AllByRecursion (λ n. n < 65536) (map type_number (types_with b s sets))
      by true more = (set_fits s sound.0, more)
      by false more = more

  named : (rows : Rows) (sets : List RecordSetValue) → AreSoundSets sets → map (rows_by_number rows owner) (numbers_in sets) ≡ map (rows_at rows owner) (types_in sets)
  named rows [] sound = refl
  named rows (s ∷ sets) sound = by (is_of s) (named rows sets sound.1)
    where
      by : (b : Bool) → map (rows_by_number rows owner) (numbers_in sets) ≡ map (rows_at rows owner) (types_in sets)
          → map (rows_by_number rows owner) (map type_number (types_with b s sets)) ≡ map (rows_at rows owner) (types_with b s sets)
      by true more = λ i. rows_at rows owner (sound.0.type_named i) ∷ more i
      by false more = more

  there : (sets : List RecordSetValue) → AllByRecursion (λ t. list_any (tied (key owner t)) sets ≡ true) (types_in sets)
  there [] = tt
  there (s ∷ sets) = by (is_of s) refl (weaken (λ t (h : list_any (tied (key owner t)) sets ≡ true). or_true (tied (key owner t) s) (list_any (tied (key owner t)) sets) h) (types_in sets) (there sets))
    where
      by : (b : Bool) → is_of s ≡ b → AllByRecursion (λ t. list_any (tied (key owner t)) (s ∷ sets) ≡ true) (types_in sets)
          → AllByRecursion (λ t. list_any (tied (key owner t)) (s ∷ sets) ≡ true) (types_with b s sets)
      by true e more =
          let tie : tied (key owner s.record_type) s ≡ true =
          sym (keys_tie owner s.name.labels s.record_type s.record_type) ∙ (λ i. e i && itself (type_number s.record_type) i) in
          (ap (λ (b : Bool). b || list_any (tied (key owner s.record_type)) sets) tie, more)
      by false e more = more

  filled_types : (sets : List RecordSetValue) → AreSoundSets sets → AllByRecursion (λ t. length (rows_at (rows_of_sets sets) owner t) ≢ 0) (types_in sets)
  filled_types sets sound = weaken {Q = λ (t : RecordType). length (rows_at (rows_of_sets sets) owner t) ≢ 0} here (types_in sets) (there sets)
    where
      here : (t : RecordType) → list_any (tied (key owner t)) sets ≡ true → length (rows_at (rows_of_sets sets) owner t) ≢ 0
      here t h e = found_filled (key owner t) sets sound h (sym (ap (λ (o : Option (List Row)). length (unwrap_or o [])) (get-sets sets (key owner t))) ∙ e)

  -- ---- no other type has a set

  not_found : (n : ℕ) (sets : List RecordSetValue) → is_among n (numbers_in sets) ≡ false → list.find (tied (key owner (type_of n))) sets ≡ None
  not_found n [] e = refl
  not_found n (s ∷ sets) e = by (is_of s) refl e (not_found n sets)
    where
      tie : tied (key owner (type_of n)) s ≡ (is_of s && (n == type_number s.record_type))
      tie = sym (keys_tie owner s.name.labels (type_of n) s.record_type) ∙ ap (λ (k : ℕ). is_of s && (k == type_number s.record_type)) (round n)

      by : (b : Bool) → is_of s ≡ b → is_among n (map type_number (types_with b s sets)) ≡ false
          → (is_among n (numbers_in sets) ≡ false → list.find (tied (key owner (type_of n))) sets ≡ None)
          → cond (tied (key owner (type_of n)) s) (Some s) (list.find (tied (key owner (type_of n))) sets) ≡ None
      by true f g more =
          let both = or_false (n == type_number s.record_type) (is_among n (numbers_in sets)) g in
          ap (λ (b : Bool). cond b (Some s) (list.find (tied (key owner (type_of n))) sets)) (tie ∙ (λ i. f i && both.0 i)) ∙ more both.1
      by false f g more =
          ap (λ (b : Bool). cond b (Some s) (list.find (tied (key owner (type_of n))) sets)) (tie ∙ ap (λ (b : Bool). b && (n == type_number s.record_type)) f) ∙ more g

  -- ---- all sets

  have_all : (zone : ZoneContent) (sets : List RecordSetValue) → AreSetsOf zone sets → map (rows_at zone.rows owner) (types_in sets) ≡ filled (map (rows_by_number zone.rows owner) any_numbers)
  have_all zone sets are =
      ap (λ (rows : Rows). map (rows_at rows owner) (types_in sets)) are.rows
      ∙ sym (all_kept (rows_at (rows_of_sets sets) owner) (types_in sets) (filled_types sets are.sound))
      ∙ ap filled (sym (named (rows_of_sets sets) sets are.sound))
      ∙ all_sets (rows_by_number (rows_of_sets sets) owner) 65536 (numbers_in sets) (ascends sets are.ordered) (fit sets are.sound) (λ n e. no_rows_at sets owner (type_of n) (sym (not_found n sets e)))
      ∙ ap (λ (rows : Rows). filled (map (rows_by_number rows owner) any_numbers)) (sym are.rows)

  pub all_types : (zone : ZoneContent) (r : Result (Vec RecordType) AllocError)
      → (sets : List RecordSetValue) × (AreSetsOf zone sets × IfOk r (λ (found : Vec RecordType). found.items ≡ types_in sets))
      → IfOk r (λ (types : Vec RecordType). map (rows_at zone.rows owner) types.items ≡ filled (map (rows_by_number zone.rows owner) any_numbers))
  all_types zone (Ok found) p = ap (map (rows_at zone.rows owner)) p.1.1 ∙ have_all zone p.0 p.1.0
  all_types zone (Err e) p = tt
