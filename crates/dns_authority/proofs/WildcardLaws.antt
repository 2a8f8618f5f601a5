-- Names without some of their labels, and the closest encloser.
use Rattle.std.proofs.Common.{◌≡◌, ◌+◌, ◌-◌, ◌<◌, ◌≤◌, Bool, true, false, cond, nat_lt, ℕ, zero, suc, add-one, List, [], ◌∷◌, length, drop, refl, ap, ◌∙◌, arith, Some, None}
use Rattle.std.proofs.lemmas.Bool.Decides.{nat_tests}
use Rattle.std.proofs.lemmas.List.{drop_all}
use Rattle.dns_names.specs.Name.{DomainName}
use Rattle.dns_names.specs.Build.{into_wildcard, trim_to}
use Rattle.dns_zone.specs.Rows.{Rows, some_row_below}
use Rattle.dns_authority.specs.steps.Wildcard.{closest_encloser, wildcard_below}

-- ---- names without some of their labels

-- the name with these labels
abbrev pub qualified : List (List ℕ) → DomainName
qualified labels = record { is_fqdn = true; labels = labels }

not_longer : (b : Bool) (name other : DomainName) → b ≡ false → cond b name other ≡ other
not_longer b name other fails = ap (λ (t : Bool). cond t name other) fails

-- a name without so many of its labels
pub trimmed : (name : DomainName) (past kept : ℕ) → past ≤ length name.labels → kept ≡ length name.labels - past → trim_to name kept ≡ qualified (drop past name.labels)
trimmed name past kept within is =
    let short : nat_lt (length name.labels) kept ≡ false = grind (arith, nat_tests) in
    let left : length name.labels - kept ≡ past = omega (arith, is) in
    not_longer (nat_lt (length name.labels) kept) name (qualified (drop (length name.labels - kept) name.labels)) short
    ∙ ap (λ (n : ℕ). qualified (drop n name.labels)) left

star_at : (labels : List (List ℕ)) (past : ℕ) → past < length labels → into_wildcard (qualified (drop past labels)) ≡ wildcard_below (drop (suc past) labels)
star_at [] past below = absurd (omega arith)
star_at (label ∷ labels) zero below = refl
star_at (label ∷ labels) (suc past) below = star_at labels past (omega arith)

-- `*` in place of the first of the labels that are left
pub star_beside : (labels : List (List ℕ)) (past : ℕ) → past < length labels → into_wildcard (qualified (drop past labels)) ≡ wildcard_below (drop (past + 1) labels)
star_beside labels past below = rw (add-one) (star_at labels past below)

-- ---- the closest encloser

module _ (rows : Rows) where
  above : (labels : List (List ℕ)) (past : ℕ) → past < length labels
      → closest_encloser rows (drop past labels) ≡ cond (some_row_below rows (drop (suc past) labels)) (Some (drop (suc past) labels)) (closest_encloser rows (drop (suc past) labels))
  above [] past below = absurd (omega arith)
  above (label ∷ labels) zero below = refl
  above (label ∷ labels) (suc past) below = above labels past (omega arith)

  by_test : (labels : List (List ℕ)) (past : ℕ) (b : Bool) → past < length labels → some_row_below rows (drop (past + 1) labels) ≡ b
      → closest_encloser rows (drop past labels) ≡ cond b (Some (drop (past + 1) labels)) (closest_encloser rows (drop (past + 1) labels))
  by_test labels past b below is =
      rw (add-one) (above labels past below) ∙ ap (λ (t : Bool). cond t (Some (drop (past + 1) labels)) (closest_encloser rows (drop (past + 1) labels))) is

  -- the name above exists
  pub encloser_here : (labels : List (List ℕ)) (past : ℕ) → past < length labels → some_row_below rows (drop (past + 1) labels) ≡ true
      → closest_encloser rows (drop past labels) ≡ Some (drop (past + 1) labels)
  encloser_here labels past below holds = by_test labels past true below holds

  -- the name above does not exist
  pub encloser_above : (labels : List (List ℕ)) (past : ℕ) → past < length labels → some_row_below rows (drop (past + 1) labels) ≡ false
      → closest_encloser rows (drop past labels) ≡ closest_encloser rows (drop (past + 1) labels)
  encloser_above labels past below fails = by_test labels past false below fails

  -- no name is above the root
  pub encloser_none : (labels : List (List ℕ)) (past : ℕ) → length labels ≤ past → closest_encloser rows (drop past labels) ≡ None
  encloser_none labels past all = ap (closest_encloser rows) (drop_all past labels all)
