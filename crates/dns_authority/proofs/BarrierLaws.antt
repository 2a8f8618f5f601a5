-- Searches among names of more and more labels.
use Rattle.std.proofs.Common.{◌≡◌, ◌+◌, ◌-◌, ◌<◌, ◌≤◌, ◌==◌, Bool, true, false, not, cond, ℕ, suc, List, length, map, sym, ap, ◌∙◌, arith, Option, Some, None}
use Rattle.std.proofs.lemmas.List.{length-map}
use Rattle.std.specs.List.{find, range_with_len}
use Rattle.dns_records.specs.Record.{Record}
use Rattle.dns_records.specs.declared.row.Row.{Row}
use Rattle.dns_zone.specs.Rows.{row_of, rows_of}

module _ {X : Type 0} (p : X → Bool) (f : ℕ → X) where
  abbrev from : ℕ → ℕ → Option X
  from kept count = find p (map f (range_with_len kept (count - kept)))

  more : (kept count : ℕ) → kept < count → from kept count ≡ cond (p (f kept)) (Some (f kept)) (from (kept + 1) count)
  more kept count below =
      let one_less : count - kept ≡ suc (count - (kept + 1)) = omega arith in
      ap (λ (n : ℕ). find p (map f (range_with_len kept n))) one_less

  -- the first of them is it
  pub found_first : (kept count : ℕ) (b : Bool) → kept < count → b ≡ p (f kept) → b ≡ true → from kept count ≡ Some (f kept)
  found_first kept count b below is holds =
      let test : p (f kept) ≡ true = cc in
      more kept count below ∙ ap (λ (t : Bool). cond t (Some (f kept)) (from (kept + 1) count)) test

  -- the first of them is not
  pub passed_first : (kept count : ℕ) (b : Bool) → kept < count → b ≡ p (f kept) → b ≡ false → from kept count ≡ from (kept + 1) count
  passed_first kept count b below is fails =
      let test : p (f kept) ≡ false = cc in
      more kept count below ∙ ap (λ (t : Bool). cond t (Some (f kept)) (from (kept + 1) count)) test

  -- there is none left
  pub found_none : (kept count : ℕ) → count ≤ kept → from kept count ≡ None
  found_none kept count all =
      let none : count - kept ≡ 0 = omega arith in
      ap (λ (n : ℕ). find p (map f (range_with_len kept n))) none

-- ---- rows

-- records that are there
pub some_rows : (records : List Record) (rows : List Row) (b : Bool) → rows_of records ≡ rows → b ≡ (length records == 0) → not b ≡ not (length rows == 0)
some_rows records rows b is empty =
    ap not (empty ∙ ap (λ (n : ℕ). n == 0) (sym (length-map records row_of) ∙ ap (λ (rs : List Row). length rs) is))
