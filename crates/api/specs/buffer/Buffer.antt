-- Bytes in a buffer of the caller.
use Rattle.std.specs.Prelude.{◌≡◌, ◌<◌, ◌≤◌, ◌++◌, List, ℕ, drop, length, Result, Ok, Err}
use Rattle.api.specs.declared.buffer.refusal.Refusal.{Refusal}
use Rattle.api.specs.declared.buffer.refusal.Refusal.TheVariants.{TooSmall}

-- Bytes are written to the front of a buffer, and their number is told. If they do not fit, only the number is.
abbrev pub Writes : List ℕ → List ℕ → Result (Unit {0}) Refusal → List ℕ → ℕ → Type 0
Writes bytes buffer (Ok _) buffer' len =
    (length bytes ≤ length buffer) × (buffer' ≡ bytes ++ drop (length bytes) buffer) × (len ≡ length bytes)
Writes bytes buffer (Err refusal) buffer' len =
    (length buffer < length bytes) × (refusal ≡ TooSmall) × (buffer' ≡ buffer) × (len ≡ length bytes)

-- Bytes that were found are written. After a refusal the buffer and the number are as they were.
abbrev pub Delivers : Result (List ℕ) Refusal → List ℕ → ℕ → Result (Unit {0}) Refusal → List ℕ → ℕ → Type 0
Delivers (Ok bytes) buffer len result buffer' len' = Writes bytes buffer result buffer' len'
Delivers (Err refusal) buffer len result buffer' len' = (result ≡ Err refusal) × (buffer' ≡ buffer) × (len' ≡ len)

-- the bytes of a vector that was found
abbrev pub bytes_in : {V : Type 0} → (V → List ℕ) → Result V Refusal → Result (List ℕ) Refusal
bytes_in bytes (Ok found) = Ok (bytes found)
bytes_in bytes (Err refusal) = Err refusal
