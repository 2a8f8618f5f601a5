-- What a call finds, from the clauses of the function that it calls.
use Rattle.std.proofs.Common.{ℕ, List, IfOk, IfErr, Result, Ok, Err}
use Rattle.api.specs.buffer.Buffer.{bytes_in}
use Rattle.api.specs.declared.buffer.refusal.Refusal.{Refusal}
use Rattle.rumstrait_c.specs.Codes.{Finds}

pub finds_bytes : {V : Type 0} (items : V → List ℕ) (IsFound : List ℕ → Type 0) (IsRefused : Refusal → Type 0) (found : Result V Refusal)
    → IfOk found (λ v. IsFound (items v)) → IfErr found IsRefused → Finds IsFound IsRefused (bytes_in items found)
finds_bytes items IsFound IsRefused (Ok v) is_found is_refused = is_found
finds_bytes items IsFound IsRefused (Err refusal) is_found is_refused = is_refused
