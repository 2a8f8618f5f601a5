-- What a compaction does, and what a crash leaves of it.
use Rattle.std.specs.Prelude.{◌≡◌, ◌≢◌, ◌⊎◌, ℕ, Bool, true, false, List, [], ◌∷◌, length, drop}
use Rattle.sha2.specs.Sha256.{sha256}
use Rattle.dns_journal.specs.format.Format.{digest_in, IsJournal}
use Rattle.dns_journal.specs.declared.journal.Position.{Position}
use Rattle.dns_journal.specs.declared.journal.State.{State}
use Rattle.dns_journal.specs.declared.journal.State.TheVariants as states
use Rattle.dns_journal.specs.Appending.{IsPosition, IsRemainder}
use Rattle.dns_journal.specs.Event.{Event, Files}
use Rattle.dns_journal.specs.Event as events
use Rattle.dns_journal.specs.Storage.{Always, Ends, LeavesOnly, at_rest}
use Rattle.dns_durable.specs.recovery.Beginning.{new_journal}
pub use Rattle.dns_durable.specs.recovery.Payloads.{entries_of, last_after, last_payload, mark, payloads_of, updates_in, updates_of}

-- the last of payloads is the mark of a text, and these are the updates that the mark says that it lacks
pub record AreCarried (text : List ℕ) (payloads updates : List (List ℕ)) : Type 0 where
  pub carried : List ℕ
  pub marked : last_payload payloads ≡ mark text carried
  pub updates_are : updates ≡ entries_of carried

-- What files stand for: their text, and updates of it. These are those of the journal if it belongs to the text, and those that the
-- text lacks if the journal ends with the mark of the text.
pub record Recovers (files : Files) (updates : List (List ℕ)) : Type 0 where
  pub head : List ℕ
  pub payloads : List (List ℕ)
  pub end : List ℕ
  pub journal : IsJournal files.journal head payloads end
  pub by : ((digest_in head ≡ sha256 files.text) × (updates ≡ updates_in payloads))
      ⊎ ((digest_in head ≢ sha256 files.text) × AreCarried files.text payloads updates)

-- Files have the old text or the new one. They stand for the old one with its updates, or for the new one with those that it lacks, if
-- a crash leaves of the mark what it may leave.
pub record IsOldOrNew (old : Position) (text new carried bytes digest : List ℕ) (payloads : List (List ℕ)) (files : Files) : Type 0 where
  pub text_is : (files.text ≡ text) ⊎ (files.text ≡ new)
  pub stands : IsRemainder old (mark new carried) (drop (length bytes) files.journal)
      → ((files.text ≡ text) × Recovers files (updates_in payloads)) ⊎ ((files.text ≡ new) × Recovers files (entries_of carried))

-- the calls that replace a text and its journal, by the state that they leave
abbrev pub IsReplaced : List ℕ → List ℕ → State → List Event → Type 0
IsReplaced new journal states.Ready es = es ≡ events.ReplaceText new true ∷ events.ReplaceJournal journal true ∷ []
IsReplaced new journal states.Torn es = es ≡ events.ReplaceText new false ∷ []
IsReplaced new journal states.Lost es = es ≡ events.ReplaceText new true ∷ events.ReplaceJournal journal false ∷ []

-- What a compaction asks of a storage that is at rest. At any moment, a crash leaves the old text with its updates or the new text
-- with those that it lacks. Once it is done, the new text is on the disk, with a journal that has these alone. If it is refused, the
-- journal is not ready, or nothing was asked of the storage.
pub record Compacts (old_position new_position : Position) (done : Bool) (text new carried bytes digest : List ℕ)
    (payloads : List (List ℕ)) (es : List Event) : Type 0 where
  pub any_moment : Always (LeavesOnly (IsOldOrNew old_position text new carried bytes digest payloads)) (at_rest text bytes) es
  pub stored : done ≡ true
      → Ends (λ d. d ≡ at_rest new (new_journal (sha256 new) new_position.key carried)) (at_rest text bytes) es
  pub position : done ≡ true
      → IsPosition new_position (new_journal (sha256 new) new_position.key carried) (sha256 new) (payloads_of carried)
  pub ready : done ≡ true → new_position.state ≡ states.Ready
  pub refused : done ≡ false → new_position.state ≡ states.Ready → (es ≡ []) × (new_position ≡ old_position)

-- What a compaction asks of a storage: what keeps the updates of each text that the journal may belong to, unless that has
-- the same digest; and nothing if the journal is not ready.
pub record AsksToCompact (new carried : List ℕ) (done : Bool) (old_position new_position : Position) (es : List Event) : Type 0 where
  pub compacts : (text bytes digest : List ℕ) (payloads : List (List ℕ)) → IsPosition old_position bytes digest payloads
      → digest ≡ sha256 text → (sha256 new ≡ sha256 text → new ≡ text)
      → Compacts old_position new_position done text new carried bytes digest payloads es
  pub idle : old_position.state ≢ states.Ready → (es ≡ []) × (new_position ≡ old_position)
