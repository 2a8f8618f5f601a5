-- What opening a journal does, and what a crash leaves of it.
use Rattle.std.specs.Prelude.{◌≡◌, ◌-◌, ℕ, Bool, true, false, List, [], ◌∷◌, length, take, drop}
use Rattle.dns_journal.specs.format.Format.{digest_in, IsJournal}
use Rattle.dns_journal.specs.declared.journal.State.{State}
use Rattle.dns_journal.specs.declared.journal.State.TheVariants as states
use Rattle.dns_journal.specs.Appending.{StandsFor}
use Rattle.dns_journal.specs.Event.{Event, Files}
use Rattle.dns_journal.specs.Event as events
use Rattle.dns_journal.specs.Storage.{Always, Ends, LeavesOnly, at_rest}

-- the bytes of a journal without what follows its entries
abbrev pub whole_front : List ℕ → List ℕ → List ℕ
whole_front bytes end = take (length bytes - length end) bytes

-- what a crash brings back of an end that was cut off: a front of it
pub record IsFrontOf (end left : List ℕ) : Type 0 where
  pub len : ℕ
  pub is : left ≡ take len end

-- The text is unchanged, and the journal has the same payloads, if a crash brings back no more than a front of what was cut off.
pub record IsUnchanged (text bytes head : List ℕ) (payloads : List (List ℕ)) (end : List ℕ) (files : Files) : Type 0 where
  pub text_is : files.text ≡ text
  pub journal : IsFrontOf end (drop (length bytes - length end) files.journal) → StandsFor files.journal (digest_in head) payloads

-- the calls that cut a journal to a length, by the state that they leave
abbrev pub IsCutOff : ℕ → State → List Event → Type 0
IsCutOff len states.Ready es = es ≡ events.Cut len true ∷ events.Sync true ∷ []
IsCutOff len states.Torn es = es ≡ events.Cut len false ∷ []
IsCutOff len states.Lost es = es ≡ events.Cut len true ∷ events.Sync false ∷ []

-- What a repair of the end of a journal asks of a storage that is at rest, as it is after a restart. At any moment, a crash leaves
-- the same payloads. Once it is done, the journal has them and no end, and it is on the disk.
pub record Resumes (end : List ℕ) (done : Bool) (text bytes head : List ℕ) (payloads : List (List ℕ)) (es : List Event) : Type 0 where
  pub any_moment : Always (LeavesOnly (IsUnchanged text bytes head payloads end)) (at_rest text bytes) es
  pub stored : done ≡ true → Ends (λ d. d ≡ at_rest text (whole_front bytes end)) (at_rest text bytes) es
  pub whole : IsJournal (whole_front bytes end) head payloads []
