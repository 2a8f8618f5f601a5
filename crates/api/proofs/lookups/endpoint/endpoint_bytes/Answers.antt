use Rattle.std.proofs.Common.{◌≡◌, ◌++◌, ◌/◌, ◌%◌, List, [], ◌∷◌, ℕ, length, slice_index_or, ap, refl, arith}
use Rattle.api.proofs.lookups.endpoint.endpoint_bytes.Goals as goal

-- a list of sixteen has these items
sixteen : (xs : List ℕ) → length xs ≡ 16 → slice_index_or xs 0 0 ∷ slice_index_or xs 1 0 ∷ slice_index_or xs 2 0 ∷ slice_index_or xs 3 0 ∷ slice_index_or xs 4 0 ∷ slice_index_or xs 5 0 ∷ slice_index_or xs 6 0 ∷ slice_index_or xs 7 0 ∷ slice_index_or xs 8 0 ∷ slice_index_or xs 9 0 ∷ slice_index_or xs 10 0 ∷ slice_index_or xs 11 0 ∷ slice_index_or xs 12 0 ∷ slice_index_or xs 13 0 ∷ slice_index_or xs 14 0 ∷ slice_index_or xs 15 0 ∷ [] ≡ xs
sixteen [] e = absurd (omega arith)
sixteen (x0 ∷ []) e = absurd (omega arith)
sixteen (x0 ∷ x1 ∷ []) e = absurd (omega arith)
sixteen (x0 ∷ x1 ∷ x2 ∷ []) e = absurd (omega arith)
sixteen (x0 ∷ x1 ∷ x2 ∷ x3 ∷ []) e = absurd (omega arith)
sixteen (x0 ∷ x1 ∷ x2 ∷ x3 ∷ x4 ∷ []) e = absurd (omega arith)
sixteen (x0 ∷ x1 ∷ x2 ∷ x3 ∷ x4 ∷ x5 ∷ []) e = absurd (omega arith)
sixteen (x0 ∷ x1 ∷ x2 ∷ x3 ∷ x4 ∷ x5 ∷ x6 ∷ []) e = absurd (omega arith)
sixteen (x0 ∷ x1 ∷ x2 ∷ x3 ∷ x4 ∷ x5 ∷ x6 ∷ x7 ∷ []) e = absurd (omega arith)
sixteen (x0 ∷ x1 ∷ x2 ∷ x3 ∷ x4 ∷ x5 ∷ x6 ∷ x7 ∷ x8 ∷ []) e = absurd (omega arith)
sixteen (x0 ∷ x1 ∷ x2 ∷ x3 ∷ x4 ∷ x5 ∷ x6 ∷ x7 ∷ x8 ∷ x9 ∷ []) e = absurd (omega arith)
sixteen (x0 ∷ x1 ∷ x2 ∷ x3 ∷ x4 ∷ x5 ∷ x6 ∷ x7 ∷ x8 ∷ x9 ∷ x10 ∷ []) e = absurd (omega arith)
sixteen (x0 ∷ x1 ∷ x2 ∷ x3 ∷ x4 ∷ x5 ∷ x6 ∷ x7 ∷ x8 ∷ x9 ∷ x10 ∷ x11 ∷ []) e = absurd (omega arith)
sixteen (x0 ∷ x1 ∷ x2 ∷ x3 ∷ x4 ∷ x5 ∷ x6 ∷ x7 ∷ x8 ∷ x9 ∷ x10 ∷ x11 ∷ x12 ∷ []) e = absurd (omega arith)
sixteen (x0 ∷ x1 ∷ x2 ∷ x3 ∷ x4 ∷ x5 ∷ x6 ∷ x7 ∷ x8 ∷ x9 ∷ x10 ∷ x11 ∷ x12 ∷ x13 ∷ []) e = absurd (omega arith)
sixteen (x0 ∷ x1 ∷ x2 ∷ x3 ∷ x4 ∷ x5 ∷ x6 ∷ x7 ∷ x8 ∷ x9 ∷ x10 ∷ x11 ∷ x12 ∷ x13 ∷ x14 ∷ []) e = absurd (omega arith)
sixteen (x0 ∷ x1 ∷ x2 ∷ x3 ∷ x4 ∷ x5 ∷ x6 ∷ x7 ∷ x8 ∷ x9 ∷ x10 ∷ x11 ∷ x12 ∷ x13 ∷ x14 ∷ x15 ∷ []) e = refl
sixteen (x0 ∷ x1 ∷ x2 ∷ x3 ∷ x4 ∷ x5 ∷ x6 ∷ x7 ∷ x8 ∷ x9 ∷ x10 ∷ x11 ∷ x12 ∷ x13 ∷ x14 ∷ x15 ∷ x16 ∷ rest) e = absurd (omega arith)

pub returns : goal.returns
returns c =
    let whole = ap (λ (xs : List ℕ). xs ++ (c.port-port.result / 256) ∷ (c.port-port.result % 256) ∷ []) (sixteen c.mapped_octets.result c.mapped_octets.ensures.len) in
    cc
