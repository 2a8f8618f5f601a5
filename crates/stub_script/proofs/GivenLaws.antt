-- Requests that a script answers.
use Rattle.std.proofs.Common.{◌≡◌, ◌<◌, ◌≤◌, ℕ, zero, suc, arith, List, Option, Some, None, Result, Ok, Err, sym, ◌∙◌}
use Rattle.std.specs.declared.alloc.AllocError.{AllocError}
use Rattle.stub_link.specs.declared.trace.note_text.RequestNote.{RequestNote}

not_less : (m n : ℕ) → ¬ (n < m) → m ≤ n
not_less zero n never = omega arith
not_less (suc m) zero never = absurd (never (omega arith))
not_less (suc m) (suc n) never = let below : m ≤ n = not_less m n (λ less. never (omega (arith, less))) in omega (arith, below)

-- bytes that take memory to be decoded begin with a header
pub long_if_refused : (n : ℕ) (result : Result (Option RequestNote) AllocError) (error : AllocError) → (n < 12 → result ≡ Ok None)
    → result ≡ Err error → 12 ≤ n
long_if_refused n result error short is = not_less 12 n (λ less. let both : Ok None ≡ Err error = sym (short less) ∙ is in cc both)

-- and so do those of a request
pub long_if_some : (n : ℕ) (result : Result (Option RequestNote) AllocError) (found : Option RequestNote) (request : RequestNote)
    → (n < 12 → result ≡ Ok None) → result ≡ Ok found → found ≡ Some request → 12 ≤ n
long_if_some n result found request short is some =
    not_less 12 n (λ less. let both : Ok None ≡ Ok found = sym (short less) ∙ is in cc (both, some))
