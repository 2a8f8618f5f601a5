-- What an append of updates does, and what a crash leaves of it.
use Rattle.std.specs.Prelude.{◌≡◌, ◌⊎◌, ℕ, Bool, true, false, List, [], ◌∷◌, ◌++◌, drop}
use Rattle.sha2.specs.Sha256.{sha256}
use Rattle.dns_journal.specs.declared.journal.Position.{Position}
use Rattle.dns_journal.specs.declared.journal.State.TheVariants as states
use Rattle.dns_journal.specs.Appending.{IsPosition, IsRemainder}
use Rattle.dns_journal.specs.Event.{Event, Files}
use Rattle.dns_journal.specs.Storage.{Always, Disk, Ends, LeavesOnly, at_rest}
use Rattle.dns_durable.specs.recovery.Compacting.{Recovers, updates_in}
pub use Rattle.dns_durable.specs.recovery.Payloads.{update_payload}

-- A journal is open: on the disk are its text, and the updates of this text up to its position.
pub record IsOpen (text : List ℕ) (updates : List (List ℕ)) (position : Position) (d : Disk) : Type 0 where
  pub bytes : List ℕ
  pub payloads : List (List ℕ)
  pub disk_is : d ≡ at_rest text bytes
  pub at : IsPosition position bytes (sha256 text) payloads
  pub updates_are : updates ≡ updates_in payloads

-- Files stand for the updates from before an append, with the new one or without, if a crash leaves of its write
-- what it may leave.
pub record IsBeforeOrAfterUpdate (text : List ℕ) (updates : List (List ℕ)) (update : List ℕ) (old : Position) (files : Files) : Type 0 where
  pub text_is : files.text ≡ text
  pub stands : IsRemainder old (update_payload update) (drop old.end files.journal)
      → Recovers files updates ⊎ Recovers files (updates ++ update ∷ [])

-- What an append of updates asks of a storage whose journal is open. At any moment, a crash leaves the updates from before it, with
-- the new ones or without. Once it is done, the new ones are on the disk. If it is refused, the journal is not ready, or nothing was
-- asked of the storage.
pub record AppendsUpdate (old new : Position) (update : List ℕ) (done : Bool) (text : List ℕ) (updates : List (List ℕ)) (d : Disk) (es : List Event) : Type 0 where
  pub any_moment : Always (LeavesOnly (IsBeforeOrAfterUpdate text updates update old)) d es
  pub stored : done ≡ true → Ends (IsOpen text (updates ++ update ∷ []) new) d es
  pub ready : done ≡ true → new.state ≡ states.Ready
  pub refused : done ≡ false → new.state ≡ states.Ready → (es ≡ []) × (new ≡ old)
