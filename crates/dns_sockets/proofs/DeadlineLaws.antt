-- The earliest of moments, one after another.
use Rattle.std.proofs.Common.{◌≡◌, ◌≤◌, ◌+◌, ◌<◌, ◌∙◌, ℕ, List, [], ◌∷◌, ◌++◌, length, take, get_or, sym, ap, arith}
use Rattle.std.specs.Prelude.{min}
use Rattle.std.proofs.lemmas.List.{take_all, take_more}
use Rattle.dns_sockets.specs.Deadlines.{earliest, never}

module _ {A : Type 0} (moment_of : A → ℕ) where
  least_never : (xs : List A) → earliest moment_of xs ≤ never
  least_never [] = omega arith
  least_never (x ∷ xs) = grind (arith, least_never xs)

  with_one : (xs : List A) (x : A) → earliest moment_of (xs ++ x ∷ []) ≡ min (earliest moment_of xs) (moment_of x)
  with_one [] x = grind (arith)
  with_one (y ∷ xs) x = grind (arith, with_one xs x)

  -- one moment more
  pub earlier : (xs : List A) (i : ℕ) (default : A) (least : ℕ) → i < length xs → least ≡ earliest moment_of (take i xs)
      → min least (moment_of (get_or xs i default)) ≡ earliest moment_of (take (i + 1) xs)
  earlier xs i default least below is =
      ap (λ (n : ℕ). min n (moment_of (get_or xs i default))) is ∙ sym (with_one (take i xs) (get_or xs i default)) ∙ ap (earliest moment_of) (sym (take_more xs i default below))

  -- all of them
  pub earliest_whole : (xs : List A) (i : ℕ) (least : ℕ) → length xs ≤ i → least ≡ earliest moment_of (take i xs) → least ≡ earliest moment_of xs
  earliest_whole xs i least all is = is ∙ ap (earliest moment_of) (take_all i xs all)
