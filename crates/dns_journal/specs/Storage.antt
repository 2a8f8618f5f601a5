-- What is asked of a storage, and what a crash may leave of it.
use Rattle.std.specs.Prelude.{◌≡◌, ◌≤◌, ◌+◌, ◌⊎◌, ℕ, Bool, true, false, List, [], ◌∷◌, ◌++◌, length, take, max, min, if◌then◌else◌, Result, Ok, Err}
use Rattle.dns_journal.specs.declared.error.StorageError.{StorageError}
use Rattle.dns_journal.specs.declared.storage.StoredFiles.{StoredFiles}
use Rattle.dns_journal.specs.Event as events
use Rattle.dns_journal.specs.Event.{Event, Files}

-- a read, as an event
abbrev pub read_event : Result StoredFiles StorageError → Event
read_event (Ok files) = events.Read (record { text = files.text.items; journal = files.journal.items })
read_event (Err error) = events.FailedRead

-- A disk: the text, the journal as a read returns it, the number of bytes at its front that no crash changes, the greatest length
-- that a crash may leave it, and whether a sync has failed.
pub record Disk : Type 0 where
  pub text : List ℕ
  pub seen : List ℕ
  pub safe : ℕ
  pub reach : ℕ
  pub unsure : Bool

-- a disk of which a crash leaves what a read returns
abbrev pub at_rest : List ℕ → List ℕ → Disk
at_rest text journal = record { text = text; seen = journal; safe = length journal; reach = length journal; unsure = false }

-- after an append: no byte of it is safe from a crash, and the journal may be left as long as it is now
abbrev pub appended : Disk → List ℕ → Disk
appended d bytes = record {
  text = d.text;
  seen = d.seen ++ bytes;
  safe = d.safe;
  reach = max d.reach (length d.seen + length bytes);
  unsure = d.unsure;
}

-- after a sync has failed, a later one says nothing: the system may have dropped what was written
abbrev pub synced : Disk → Disk
synced d = if d.unsure then d else at_rest d.text d.seen

-- after a sync that failed
abbrev pub lost : Disk → Disk
lost d = record { text = d.text; seen = d.seen; safe = d.safe; reach = d.reach; unsure = true }

-- until the next sync a crash may bring back what was cut off
abbrev pub shortened : Disk → ℕ → Disk
shortened d len = record { text = d.text; seen = take len d.seen; safe = min len d.safe; reach = d.reach; unsure = d.unsure }

-- after the text was replaced
abbrev pub with_text : Disk → List ℕ → Disk
with_text d text = record { text = text; seen = d.seen; safe = d.safe; reach = d.reach; unsure = d.unsure }

-- What a call does to a disk. One that fails may be done in part: an append for some of its bytes, a replacement whole or not at
-- all.
abbrev pub Steps : Disk → Event → Disk → Type 0
Steps d (events.Read files) e = (files ≡ record { text = d.text; journal = d.seen }) × (e ≡ d)
Steps d events.FailedRead e = e ≡ d
Steps d (events.Append bytes true) e = e ≡ appended d bytes
Steps d (events.Append bytes false) e = (n : ℕ) × (e ≡ appended d (take n bytes))
Steps d (events.Sync true) e = e ≡ synced d
Steps d (events.Sync false) e = e ≡ lost d
Steps d (events.Cut len true) e = e ≡ shortened d len
Steps d (events.Cut len false) e = (e ≡ d) ⊎ (e ≡ shortened d len)
Steps d (events.ReplaceText text true) e = e ≡ with_text d text
Steps d (events.ReplaceText text false) e = (e ≡ d) ⊎ (e ≡ with_text d text)
Steps d (events.ReplaceJournal bytes true) e = e ≡ at_rest d.text bytes
Steps d (events.ReplaceJournal bytes false) e = (e ≡ d) ⊎ (e ≡ at_rest d.text bytes)

-- What a crash may leave of a disk: the text, and a journal whose safe front is unchanged. Any bytes may follow that, up to the
-- greatest length.
pub record Leaves (d : Disk) (files : Files) : Type 0 where
  pub text : files.text ≡ d.text
  pub front : take d.safe files.journal ≡ take d.safe d.seen
  pub no_shorter : d.safe ≤ length files.journal
  pub no_longer : length files.journal ≤ d.reach

-- a crash of a disk leaves only files that have P
abbrev pub LeavesOnly : (Files → Type 0) → Disk → Type 0
LeavesOnly P d = (files : Files) → Leaves d files → P files

-- P holds of a disk, and after each of these events
abbrev pub Always : (Disk → Type 0) → Disk → List Event → Type 0
Always P d [] = P d
Always P d (event ∷ events) = P d × ((e : Disk) → Steps d event e → Always P e events)

-- P holds of a disk after all of these events
abbrev pub Ends : (Disk → Type 0) → Disk → List Event → Type 0
Ends P d [] = P d
Ends P d (event ∷ events) = (e : Disk) → Steps d event e → Ends P e events

-- these calls, one after another, lead a storage from a state to another one
abbrev pub Led : {S : Type 0} → (S → Event → S → Type 0) → S → List Event → S → Type 0
Led performs old [] new = old ≡ new
Led performs old (event ∷ events) new = (mid : _) × (performs old event mid × Led performs mid events new)

-- calls that lead a storage from a state to another one have P
pub record Performs {S : Type 0} (performs : S → Event → S → Type 0) (old new : S) (P : List Event → Type 0) : Type 0 where
  pub events : List Event
  pub led : Led performs old events new
  pub holds : P events
