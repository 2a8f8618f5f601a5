-- Updates that arrive together are appended to a journal as one entry.
use Rattle.std.specs.Prelude.{◌≡◌, ◌≢◌, ◌⊎◌, ℕ, Bool, true, false, List, [], ◌++◌, drop}
use Rattle.dns_journal.specs.declared.journal.Position.{Position}
use Rattle.dns_journal.specs.declared.journal.State.TheVariants as states
use Rattle.dns_journal.specs.Appending.{IsRemainder}
use Rattle.dns_journal.specs.Event.{Event, Files}
use Rattle.dns_journal.specs.Storage.{Always, Disk, Ends, LeavesOnly}
use Rattle.dns_durable.specs.recovery.Compacting.{Recovers}
pub use Rattle.dns_durable.specs.recovery.Payloads.{entries_of}
use Rattle.dns_durable.specs.recovery.Updating.{IsOpen, update_payload}

-- A crash left of the entry for frames all of it, or what an interrupted write leaves, and no seal is right by chance in that.
abbrev pub IsGenuine : List ℕ → Position → Files → Type 0
IsGenuine frames old files = IsRemainder old (update_payload frames) (drop old.end files.journal)

-- Files stand for earlier updates, with the entry for frames or without, if a crash leaves of it what it may leave.
pub record IsWithOrWithout (text : List ℕ) (updates : List (List ℕ)) (frames : List ℕ) (old : Position)
    (files : Files) : Type 0 where
  pub text_is : files.text ≡ text
  pub stands : IsGenuine frames old files → Recovers files updates ⊎ Recovers files (updates ++ entries_of frames)

-- What the storing of frames asks of a storage whose journal is open. At any moment, a crash leaves the updates from before it,
-- with the entry of the frames or without. Once it is done, the entry is on the disk. If it is refused, the journal is not ready,
-- or nothing was asked of the storage.
pub record Stores (text : List ℕ) (updates : List (List ℕ)) (frames : List ℕ) (done : Bool) (old new : Position)
    (d : Disk) (es : List Event) : Type 0 where
  pub any_moment : Always (LeavesOnly (IsWithOrWithout text updates frames old)) d es
  pub stored : done ≡ true → Ends (IsOpen text (updates ++ entries_of frames) new) d es
  pub refused : done ≡ false → new.state ≡ states.Ready → (es ≡ []) × (new ≡ old)

-- a journal that is not ready is left as it is
pub record IsLeft (frames : List ℕ) (done : Bool) (old new : Position) (es : List Event) : Type 0 where
  pub unasked : es ≡ []
  pub position : new ≡ old
  pub refused : done ≡ true → frames ≡ []

-- What the storing of frames asks of a storage: nothing if there are none, or if the journal is not ready.
pub record Asks (frames : List ℕ) (done : Bool) (old new : Position) (es : List Event) : Type 0 where
  pub stores : (text : List ℕ) (updates : List (List ℕ)) (d : Disk) → IsOpen text updates old d
      → Stores text updates frames done old new d es
  pub none : frames ≡ [] → (es ≡ []) × (new ≡ old)
  pub idle : old.state ≢ states.Ready → IsLeft frames done old new es
