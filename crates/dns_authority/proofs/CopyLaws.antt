-- Copies of a list, one after another.
use Rattle.std.proofs.Common.{◌≡◌, ◌+◌, ◌<◌, ◌≤◌, ◌++◌, ℕ, List, [], ◌∷◌, length, map, take, get_or, refl, sym, ap, ◌∙◌}
use Rattle.std.proofs.lemmas.List.{map-append, take_all, take_more}
use Rattle.dns_names.specs.Name.{DomainName}
use Rattle.dns_records.specs.Record.{Record}
use Rattle.dns_zone.specs.Answer.{authority_row, record_of}
use Rattle.dns_zone.specs.Rows.{row_of, rows_of}

module _ {X Y : Type 0} (f : X → Y) where
  -- one more
  pub one_more_copy : (xs : List X) (i : ℕ) (x : X) (copies : List Y) → i < length xs → x ≡ get_or xs i x → copies ≡ map f (take i xs) → copies ++ f x ∷ [] ≡ map f (take (i + 1) xs)
  one_more_copy xs i x copies below is so_far =
      ap (λ (ys : List Y). ys ++ f x ∷ []) so_far ∙ sym (map-append f (take i xs) (x ∷ []))
      ∙ ap (λ (y : X). map f (take i xs ++ y ∷ [])) is ∙ ap (map f) (sym (take_more xs i x below))

  -- all of them
  pub all_copies : (xs : List X) (i : ℕ) (copies : List Y) → length xs ≤ i → copies ≡ map f (take i xs) → copies ≡ map f xs
  all_copies xs i copies all so_far = so_far ∙ ap (map f) (take_all i xs all)

map_twice : {X Y Z : Type 0} (f : X → Y) (g : Y → Z) (xs : List X) → map (λ x. g (f x)) xs ≡ map g (map f xs)
map_twice f g [] = refl
map_twice f g (x ∷ xs) = ap (λ zs. g (f x) ∷ zs) (map_twice f g xs)

-- a record as a row with an owner
abbrev pub copy_of : DomainName → Record → Record
copy_of owner r = record_of owner (row_of r)

-- an SOA record as a row of a negative answer
abbrev pub soa_of : DomainName → Record → Record
soa_of origin r = record_of origin (authority_row (row_of r))

pub copies_are : (owner : DomainName) (stored : List Record) → map (copy_of owner) stored ≡ map (record_of owner) (rows_of stored)
copies_are owner stored = map_twice row_of (record_of owner) stored

pub soas_are : (origin : DomainName) (stored : List Record) → map (soa_of origin) stored ≡ map (λ row. record_of origin (authority_row row)) (rows_of stored)
soas_are origin stored = map_twice row_of (λ row. record_of origin (authority_row row)) stored
