-- What an append to a journal does, and what a crash leaves of it.
use Rattle.std.specs.Prelude.{◌≡◌, ◌≢◌, ◌≤◌, ◌+◌, ◌^◌, ◌⊎◌, ℕ, Bool, true, false, List, [], ◌∷◌, ◌++◌, length, drop, Result, Ok, Err}
use Rattle.dns_journal.specs.format.Format.{digest_in, entry, key_in, last_link, IsJournal, IsTornWrite}
use Rattle.dns_journal.specs.declared.error.AppendError.{AppendError}
use Rattle.dns_journal.specs.declared.error.AppendError.TheVariants as errors
use Rattle.dns_journal.specs.declared.journal.Position.{Position}
use Rattle.dns_journal.specs.declared.journal.State.{State}
use Rattle.dns_journal.specs.declared.journal.State.TheVariants as states
use Rattle.dns_journal.specs.Storage.{Always, Ends, LeavesOnly, at_rest}
use Rattle.dns_journal.specs.Event.{Event, Files}
use Rattle.dns_journal.specs.Event as events

-- a position is the end of a whole journal that belongs to a text with this digest
pub record IsPosition (p : Position) (bytes digest : List ℕ) (payloads : List (List ℕ)) : Type 0 where
  pub head : List ℕ
  pub journal : IsJournal bytes head payloads []
  pub of_text : digest_in head ≡ digest
  pub end_is : p.end ≡ length bytes
  pub digest_is : p.digest ≡ digest
  pub key_is : p.key ≡ key_in head
  pub link_is : p.link ≡ last_link head payloads

-- bytes are a journal of a text with this digest, with these payloads, and perhaps the end of a write that was interrupted
pub record StandsFor (bytes digest : List ℕ) (payloads : List (List ℕ)) : Type 0 where
  pub head : List ℕ
  pub end : List ℕ
  pub is : IsJournal bytes head payloads end
  pub of_text : digest_in head ≡ digest

-- What a crash leaves of the write of an entry at a position: all of it, or what an interrupted write leaves. No seal is right by
-- chance in that.
abbrev pub IsRemainder : Position → List ℕ → List ℕ → Type 0
IsRemainder old payload left = (left ≡ entry old.key old.link payload) ⊎ IsTornWrite old.key old.link old.end payload left

-- The text is unchanged, and the journal has the payloads from before an append, with the new one or without.
pub record IsBeforeOrAfter (old : Position) (text bytes digest : List ℕ) (payloads : List (List ℕ)) (payload : List ℕ)
    (files : Files) : Type 0 where
  pub text_is : files.text ≡ text
  pub journal : IsRemainder old payload (drop (length bytes) files.journal)
      → StandsFor files.journal digest payloads ⊎ StandsFor files.journal digest (payloads ++ payload ∷ [])

-- the calls of an append, by the state that it leaves
abbrev pub IsStored : List ℕ → State → List Event → Type 0
IsStored bytes states.Ready es = es ≡ events.Append bytes true ∷ events.Sync true ∷ []
IsStored bytes states.Torn es = es ≡ events.Append bytes false ∷ []
IsStored bytes states.Lost es = es ≡ events.Append bytes true ∷ events.Sync false ∷ []

-- A journal has no room for a payload: that is too long, or the entries of the journal are too many, or its bytes would be.
abbrev pub IsFull : Position → List ℕ → Type 0
IsFull old payload = (2 ^ 23 ≤ length payload) ⊎ ((2 ^ 64 ≤ old.link.number + 1)
    ⊎ (2 ^ 64 ≤ old.end + length (entry old.key old.link payload)))

-- why a payload is not appended, and the position that this leaves
abbrev pub IsRefusal : Position → List ℕ → Position → AppendError → Type 0
IsRefusal old payload new errors.NotReady = (old.state ≢ states.Ready) × (new ≡ old)
IsRefusal old payload new errors.Full = IsFull old payload × (new ≡ old)
IsRefusal old payload new errors.Storage = (old.state ≡ states.Ready) × (new.state ≢ states.Ready)
IsRefusal old payload new errors.Memory = new ≡ old

-- The calls of an append, by its result and the state that it leaves. Nothing is asked of a storage but to append the entry.
abbrev pub AreCalls : List ℕ → Result (Unit {0}) AppendError → State → List Event → Type 0
AreCalls bytes (Ok done) state es = IsStored bytes states.Ready es
AreCalls bytes (Err errors.Storage) state es = IsStored bytes state es
AreCalls bytes (Err error) state es = es ≡ []

-- What an append asks of a storage that is at rest. At any moment, a crash leaves the payloads from before it, with the new one or
-- without. Once it is done, the new one is on the disk, and the journal is at its end. If it is refused, the journal is not ready,
-- or nothing was asked of the storage.
pub record Appends (old new : Position) (payload : List ℕ) (done : Bool) (text bytes digest : List ℕ) (payloads : List (List ℕ)) (es : List Event) : Type 0 where
  pub any_moment : Always (LeavesOnly (IsBeforeOrAfter old text bytes digest payloads payload)) (at_rest text bytes) es
  pub stored : done ≡ true
      → Ends (λ d. d ≡ at_rest text (bytes ++ entry old.key old.link payload)) (at_rest text bytes) es
  pub position : done ≡ true → IsPosition new (bytes ++ entry old.key old.link payload) digest (payloads ++ payload ∷ [])
  pub ready : done ≡ true → new.state ≡ states.Ready
  pub refused : done ≡ false → new.state ≡ states.Ready → (es ≡ []) × (new ≡ old)
