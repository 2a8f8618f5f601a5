-- The octets of some of several records.
use Rattle.std.proofs.Common.{◌≡◌, ◌∙◌, ◌<◌, ◌≤◌, ◌+◌, ℕ, List, [], ◌∷◌, ◌++◌, length, take, drop, map, get_or, refl, sym, ap, arith, zero, suc}
use Rattle.std.specs.Prelude.{sum_by}
use Rattle.std.proofs.lemmas.List.Sums.{sum_by_more_le}
use Rattle.dns_records.specs.Record.{Record}
use Rattle.dns_differences.specs.declared.difference.Difference.{Difference}
use Rattle.dns_differences.specs.Difference.{octets, record_octets}

-- records and the next of a list have no more octets than all of the list
pub some_octets : (rs : List Record) (i : ℕ) (r : Record) → i < length rs → r ≡ get_or rs i r
    → sum_by record_octets (take i rs) + record_octets r ≤ sum_by record_octets rs
some_octets rs i r below is = omega (arith, sum_by_more_le record_octets rs i r below, ap record_octets is)

-- ---- octets of differences that are kept

map_take : (n : ℕ) (ds : List Difference) → map octets (take n ds) ≡ take n (map octets ds)
map_take zero ds = refl
map_take (suc n) [] = refl
map_take (suc n) (d ∷ ds) = ap (λ (l : List ℕ). octets d ∷ l) (map_take n ds)

map_drop : (n : ℕ) (ds : List Difference) → map octets (drop n ds) ≡ drop n (map octets ds)
map_drop zero ds = refl
map_drop (suc n) [] = refl
map_drop (suc n) (d ∷ ds) = map_drop n ds

map_both : (ds es : List Difference) → map octets (ds ++ es) ≡ map octets ds ++ map octets es
map_both [] es = refl
map_both (d ∷ ds) es = ap (λ (l : List ℕ). octets d ∷ l) (map_both ds es)

-- the octets follow the differences to their places
pub counted_kept : (ds rotated kept : List Difference) (ls rotated_ls kept_ls : List ℕ) (s n : ℕ) → rotated ≡ drop s ds ++ take s ds → kept ≡ take n rotated
    → rotated_ls ≡ drop s ls ++ take s ls → kept_ls ≡ take n rotated_ls → ls ≡ map octets ds → kept_ls ≡ map octets kept
counted_kept ds rotated kept ls rotated_ls kept_ls s n r k rl kl is =
    kl
    ∙ ap (take n) (rl ∙ (λ i. drop s (is i) ++ take s (is i))
    ∙ (λ i. sym (map_drop s ds) i ++ sym (map_take s ds) i)
    ∙ sym (map_both (drop s ds) (take s ds)) ∙ ap (map octets) (sym r))
    ∙ sym (map_take n rotated) ∙ ap (map octets) (sym k)
