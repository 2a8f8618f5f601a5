-- What the opening of a journal does, and what a crash leaves of it.
use Rattle.std.specs.Prelude.{◌≡◌, ◌≢◌, ◌⊎◌, ◌+◌, ◌-◌, ℕ, true, false, List, [], ◌∷◌, length, drop, map, Result, Ok, Err}
use Rattle.sha2.specs.Sha256.{sha256}
use Rattle.dns_journal.specs.format.Format.{digest_in, last_link, IsFault, IsJournal}
use Rattle.dns_journal.specs.declared.format.read.JournalContent.{JournalContent}
use Rattle.dns_journal.specs.declared.storage.StoredFiles.{StoredFiles}
use Rattle.dns_journal.specs.Appending.{IsPosition}
use Rattle.dns_journal.specs.Opening.{IsFrontOf, Resumes, whole_front}
use Rattle.dns_journal.specs.Event.{Event, Files}
use Rattle.dns_journal.specs.Event as events
use Rattle.dns_journal.specs.Storage.{Always, Ends, LeavesOnly, at_rest}
use Rattle.dns_durable.specs.recovery.Beginning.{IsFirst, new_journal}
use Rattle.dns_durable.specs.recovery.Compacting.{Recovers, entries_of, last_payload, mark}
use Rattle.dns_durable.specs.recovery.Updating.{IsOpen}
use Rattle.dns_durable.specs.declared.recovery.error.OpenError.{OpenError}
use Rattle.dns_durable.specs.declared.recovery.error.OpenError.TheVariants as errors
use Rattle.dns_durable.specs.declared.recovery.opening.Opened.{Opened}

-- files that were read
abbrev pub files_read : StoredFiles → Files
files_read files = record { text = files.text.items; journal = files.journal.items }

-- what files stand for: a journal that was not begun has no updates
abbrev pub StandFor : Files → List (List ℕ) → Type 0
StandFor files updates = ((files.journal ≡ []) × (updates ≡ [])) ⊎ Recovers files updates

-- A journal belongs to another text: its digest is not that of the text, and it does not end with the mark of the text.
pub record IsOfOtherText (files : Files) : Type 0 where
  pub head : List ℕ
  pub payloads : List (List ℕ)
  pub end : List ℕ
  pub journal : IsJournal files.journal head payloads end
  pub other : digest_in head ≢ sha256 files.text
  pub unmarked : (carried : List ℕ) → last_payload payloads ≢ mark files.text carried

-- A journal belongs to its text: its digest is that of the text.
pub record IsOfText (files : Files) : Type 0 where
  pub head : List ℕ
  pub payloads : List (List ℕ)
  pub end : List ℕ
  pub journal : IsJournal files.journal head payloads end
  pub own : digest_in head ≡ sha256 files.text

-- why files are not opened
abbrev pub IsRefusal : Files → OpenError → Type 0
IsRefusal files (errors.Journal error) = IsFault files.journal error
IsRefusal files errors.OtherText = IsOfOtherText files
IsRefusal files (errors.Storage error) = Unit {0}
IsRefusal files errors.Memory = Unit {0}

-- What a crash left has no more after the entries of a journal that was read than a front of what followed them.
abbrev pub HasFrontOfEnd : Files → Files → Type 0
HasFrontOfEnd files left = (head : List ℕ) (payloads : List (List ℕ)) (end : List ℕ) → IsJournal files.journal head payloads end
    → IsFrontOf end (drop (length files.journal - length end) left.journal)

-- What a crash left has the same text and stands for the same updates, if it brings back no more than a front of what was cut off.
pub record Keeps (files left : Files) : Type 0 where
  pub text_is : left.text ≡ files.text
  pub stands : HasFrontOfEnd files left → (updates : List (List ℕ)) → StandFor files updates → StandFor left updates

-- What the opening of a journal asks of a storage that is at rest, as it is after a restart. At any moment, a crash leaves the same
-- text and the same updates. Once it is done, the journal is open. Nothing is asked before it is known that the journal belongs to
-- the text.
abbrev pub Opens : Files → Result Opened OpenError → List Event → Type 0
Opens files (Ok opened) es = Always (LeavesOnly (Keeps files)) (at_rest files.text files.journal) es
    × Ends (IsOpen files.text (map (λ u. u.now) opened.updates.items) opened.position) (at_rest files.text files.journal) es
Opens files (Err (errors.Storage error)) es = Always (LeavesOnly (Keeps files)) (at_rest files.text files.journal) es
Opens files (Err other) es = es ≡ []

-- a journal is begun for a text, with a key and the updates that the text lacks
abbrev pub Begins : List ℕ → List ℕ → List ℕ → Result Opened OpenError → List Event → Type 0
Begins text key carried (Ok opened) es = (es ≡ events.ReplaceJournal (new_journal (sha256 text) key carried) true ∷ [])
    × ((map (λ u. u.now) opened.updates.items ≡ entries_of carried) × IsFirst (sha256 text) key carried opened.position)
Begins text key carried (Err (errors.Storage error)) es =
    es ≡ events.ReplaceJournal (new_journal (sha256 text) key carried) false ∷ []
Begins text key carried (Err errors.Memory) es = es ≡ []
Begins text key carried (Err errors.OtherText) es = ⊥
Begins text key carried (Err (errors.Journal error)) es = ⊥

-- bytes are what was read as the content of a journal
pub record IsContentOf (content : JournalContent) (bytes head : List ℕ) (payloads : List (List ℕ)) : Type 0 where
  pub journal : IsJournal bytes head payloads content.end.now
  pub len : content.len + length content.end.now ≡ length bytes
  pub head_is : content.head.now ≡ head
  pub link_is : content.link ≡ last_link head payloads

-- the end of a journal that was read is repaired
abbrev pub ResumesUpdates : JournalContent → Result Opened OpenError → List Event → Type 0
ResumesUpdates content (Ok opened) es =
    (text bytes head : List ℕ) (payloads : List (List ℕ)) → IsContentOf content bytes head payloads
    → Resumes content.end.now true text bytes head payloads es
    × IsPosition opened.position (whole_front bytes content.end.now) (digest_in head) payloads
ResumesUpdates content (Err (errors.Storage error)) es =
    (text bytes head : List ℕ) (payloads : List (List ℕ)) → IsContentOf content bytes head payloads
    → Resumes content.end.now false text bytes head payloads es
ResumesUpdates content (Err errors.Memory) es = es ≡ []
ResumesUpdates content (Err errors.OtherText) es = ⊥
ResumesUpdates content (Err (errors.Journal error)) es = ⊥
