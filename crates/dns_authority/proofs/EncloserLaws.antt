-- The closest encloser, from the root down.
use Rattle.std.proofs.Common.{◌≡◌, ◌+◌, ◌-◌, ◌<◌, ◌≤◌, true, false, ℕ, zero, suc, add-one, List, length, drop, refl, sym, ap, ◌∙◌, arith, Option, Some, None}
use Rattle.std.specs.Prelude.{option_map}
use Rattle.dns_zone.specs.Rows.{Rows, some_row_below}
use Rattle.dns_authority.specs.steps.Wildcard.{closest_encloser, suffix}
use Rattle.dns_authority.proofs.StepsExistenceLaws.{absent_below}
use Rattle.dns_authority.proofs.WildcardLaws.{encloser_above, encloser_here, encloser_none}

module _ (rows : Rows) (labels : List (List ℕ)) where
  -- the labels before those of a name that does not exist make no difference
  pub skipped : (past : ℕ) → past ≤ length labels → some_row_below rows (drop past labels) ≡ false → closest_encloser rows labels ≡ closest_encloser rows (drop past labels)
  skipped zero le none = refl
  skipped (suc past) le none =
      skipped past (omega (arith, le)) (absent_below rows labels past (omega (arith, le)) none)
      ∙ encloser_above rows labels past (omega (arith, le)) (ap (λ (n : ℕ). some_row_below rows (drop n labels)) (add-one past) ∙ none)
      ∙ ap (λ (n : ℕ). closest_encloser rows (drop n labels)) (add-one past)

  -- no name is above the root
  pub at_root : option_map (suffix labels) None ≡ closest_encloser rows (suffix labels 0)
  at_root = sym (encloser_none rows labels (length labels - 0) (omega arith))

  -- a name that exists is the closest encloser of those directly below it
  pub one_below : (kept : ℕ) → kept < length labels → some_row_below rows (suffix labels kept) ≡ true → option_map (suffix labels) (Some kept) ≡ closest_encloser rows (suffix labels (kept + 1))
  one_below kept below exists =
      let one_more : length labels - (kept + 1) + 1 ≡ length labels - kept = omega (arith, below) in
      sym (encloser_here rows labels (length labels - (kept + 1)) (omega (arith, below)) (ap (λ (n : ℕ). some_row_below rows (drop n labels)) one_more ∙ exists)
      ∙ ap (λ (n : ℕ). Some (drop n labels)) one_more)

  -- the first name that does not exist ends the search
  pub first_missing : (kept : ℕ) (found : Option ℕ) → kept ≤ length labels → some_row_below rows (suffix labels kept) ≡ false
      → option_map (suffix labels) found ≡ closest_encloser rows (suffix labels kept) → option_map (suffix labels) found ≡ closest_encloser rows labels
  first_missing kept found le none so_far = so_far ∙ sym (skipped (length labels - kept) (omega arith) none)

  -- all names above exist
  pub none_missing : (kept : ℕ) (found : Option ℕ) → length labels ≤ kept → option_map (suffix labels) found ≡ closest_encloser rows (suffix labels kept)
      → option_map (suffix labels) found ≡ closest_encloser rows labels
  none_missing kept found all so_far =
      let none : length labels - kept ≡ 0 = omega (arith, all) in
      so_far ∙ ap (λ (n : ℕ). closest_encloser rows (drop n labels)) none
