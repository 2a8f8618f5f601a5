-- What is decoded from a buffer.
use Rattle.std.specs.Prelude.{◌≡◌, ℕ, ◌+◌, ◌≤◌, List, [], ◌∷◌, length, take, drop, Result, MatchResult}
use Rattle.dns_wire.specs.Decoder.{Decoder}
use Rattle.dns_wire.specs.declared.error.DecodeError.{DecodeError}
use Rattle.dns_wire.specs.declared.error.DecodeError.TheVariants.{Memory}

-- the buffer has these bytes from a place up to an end
pub record BytesAt (buffer : List ℕ) (place : ℕ) (bytes : List ℕ) (end : ℕ) : Type 0 where
  pub ends : place + length bytes ≡ end
  pub within : end ≤ length buffer
  pub there : take (length bytes) (drop place buffer) ≡ bytes

-- values follow one another from a place up to an end
abbrev pub Follow : {X : Type 0} → (ℕ → X → ℕ → Type 0) → ℕ → List X → ℕ → Type 0
Follow R place [] end = place ≡ end
Follow R place (x ∷ xs) end = (middle : ℕ) × R place x middle × Follow R middle xs end

-- A value that the grammar finds at the decoder's index is read, up to its end, unless memory runs out.
abbrev pub ReadsAll : {X : Type 0} → (List ℕ → ℕ → X → ℕ → Type 0) → Decoder → Result X DecodeError → Decoder → Type 0
ReadsAll {X} grammar old result new =
    (x : X) (end : ℕ) → grammar old.bytes old.index x end
    → MatchResult result (λ read. (read ≡ x) × (new.index ≡ end)) (λ error. error ≡ Memory)
