-- Storages whose text is a file that a person may edit.
use Rattle.std.specs.Prelude.{List}
use Rattle.dns_journal.specs.Event.{Event}
use Rattle.dns_journal.specs.Storage.{Performs}

-- Nothing is asked of the text and the journal of a storage: each of their calls that may be made after it may have been made before.
abbrev pub AsksNothing : {S : Type 0} → (S → Event → S → Type 0) → S → S → Type 0
AsksNothing {S} performs old new = (event : Event) (next : S) → performs new event next → performs old event next

-- these calls are asked of a storage, after and before others that ask nothing of its text and journal
pub record Asks {S : Type 0} (performs : S → Event → S → Type 0) (old new : S) (P : List Event → Type 0) : Type 0 where
  pub first : S
  pub last : S
  pub before : AsksNothing performs old first
  pub calls : Performs performs first last P
  pub after : AsksNothing performs last new
