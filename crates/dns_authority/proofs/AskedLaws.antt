-- The records of the sets of a name.
use Rattle.std.proofs.Common.{◌≡◌, ℕ, List, [], ◌∷◌, map, refl, sym, ap, ◌∙◌, Some, None}
use Rattle.std.specs.Prelude.{slice_get}
use Rattle.std.specs.List.{flat_map}
use Rattle.dns_wire.specs.declared.codes.record_type.RecordType.{RecordType}
use Rattle.dns_records.specs.declared.row.Row.{Row}
use Rattle.dns_authority.specs.Asked.{filled, first_filled}
use Rattle.dns_authority.proofs.OrderLaws.{first_is, first_of, joined, joined_filled, joined_sets}

module _ (rows : RecordType → List Row) (by_number : ℕ → List Row) (types : List RecordType) (numbers : List ℕ) (all : map rows types ≡ filled (map by_number numbers)) where
  -- the sets of some types, one after another, are those of all numbers
  pub same_sets : flat_map rows types ≡ flat_map by_number numbers
  same_sets = joined_sets rows types ∙ ap joined all ∙ sym (joined_filled (map by_number numbers)) ∙ sym (joined_sets by_number numbers)

  -- so is the first of them
  pub same_first : first_of (map rows types) ≡ first_filled (map by_number numbers)
  same_first = ap first_of all ∙ sym (first_is (map by_number numbers))

  -- the set of the first type is that
  pub set_of_first : (t : RecordType) → Some t ≡ slice_get types 0 → rows t ≡ first_filled (map by_number numbers)
  set_of_first t first = at types first ∙ same_first
    where
      at : (ts : List RecordType) → Some t ≡ slice_get ts 0 → rows t ≡ first_of (map rows ts)
      at [] e = absurd (cc)
      at (u ∷ ts) e = let same : t ≡ u = cc in ap rows same

  -- without a type there is none
  pub no_set : None ≡ slice_get types 0 → [] ≡ first_filled (map by_number numbers)
  no_set none = at types none ∙ same_first
    where
      at : (ts : List RecordType) → None ≡ slice_get ts 0 → [] ≡ first_of (map rows ts)
      at [] e = refl
      at (u ∷ ts) e = absurd (cc)
