-- Messages that are signed one after another (RFC 8945 section 5.3.1).
use Rattle.std.specs.Prelude.{◌≡◌, ◌⊎◌, ◌≤◌, ◌<◌, length, List, [], ◌∷◌, ℕ, Some}
use Rattle.dns_tsig.specs.Sign.{refusal_of, IsSigned}
use Rattle.dns_tsig.specs.declared.covered.Coverage.{Coverage}
use Rattle.dns_tsig.specs.declared.covered.Coverage.TheVariants.{Timers}
use Rattle.dns_tsig.specs.declared.error.SignError.{SignError}
use Rattle.dns_tsig.specs.declared.key.Key.{Key}
use Rattle.dns_transfers.specs.declared.replies.signing.StreamSigner.{StreamSigner}

-- A message was signed: it covers the code of the one before it, which its own code takes the place of, and the next one covers the
-- timers alone. A fudge of 300 seconds is recommended (section 10).
pub record SignsNext (old : StreamSigner) (message : List ℕ) (new : StreamSigner) (out : List ℕ) : Type 0 where
  pub key_stays : new.key.now ≡ old.key.now
  pub time_stays : new.time ≡ old.time
  pub signed : IsSigned old.key.now old.prior.items message old.coverage old.time 300 0 [] new.prior.items out
  pub timers : new.coverage ≡ Timers
  pub fits : length out ≤ 65535

-- Messages were signed one after another with a key, at a time: the first covers this code, and each further one the code of the
-- message before it and the timers alone.
abbrev pub SignsEach : Key → ℕ → List ℕ → Coverage → List (List ℕ) → List (List ℕ) → Type 0
SignsEach key time prior coverage [] [] = Unit {0}
SignsEach key time prior coverage [] (out ∷ outs) = ⊥
SignsEach key time prior coverage (m ∷ ms) [] = ⊥
SignsEach key time prior coverage (m ∷ ms) (out ∷ outs) =
    (code : List ℕ) × (IsSigned key prior m coverage time 300 0 [] code out × ((length out ≤ 65535) × SignsEach key time code Timers ms outs))

-- a message can have no TSIG record
pub record IsRefused (m : List ℕ) : Type 0 where
  pub error : SignError
  pub refused : refusal_of m ≡ Some error

-- a message is too long with its TSIG record
pub record IsTooLong (key : Key) (time : ℕ) (prior : List ℕ) (coverage : Coverage) (m : List ℕ) : Type 0 where
  pub code : List ℕ
  pub out : List ℕ
  pub signed : IsSigned key prior m coverage time 300 0 [] code out
  pub long : 65535 < length out

-- a message has no room for a signature
abbrev pub IsFull : Key → ℕ → List ℕ → Coverage → List ℕ → Type 0
IsFull key time prior coverage m = IsRefused m ⊎ IsTooLong key time prior coverage m

-- the messages are signed one after another, until one has no room for a signature
abbrev pub GetsFull : Key → ℕ → List ℕ → Coverage → List (List ℕ) → Type 0
GetsFull key time prior coverage [] = ⊥
GetsFull key time prior coverage (m ∷ ms) =
    IsFull key time prior coverage m
    ⊎ ((code : List ℕ) × ((out : List ℕ) × (IsSigned key prior m coverage time 300 0 [] code out × GetsFull key time code Timers ms)))
