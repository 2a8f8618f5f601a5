-- The calls of a storage.
use Rattle.std.specs.Prelude.{Bool, List, ℕ}

-- what a storage has: the text of a zone, and its journal
pub record Files : Type 0 where
  pub text : List ℕ
  pub journal : List ℕ

-- a call of a storage, and whether it was done
pub data Event : Type 0 where
  Read : Files → Event
  FailedRead : Event
  Append : List ℕ → Bool → Event
  Sync : Bool → Event
  Cut : ℕ → Bool → Event
  ReplaceText : List ℕ → Bool → Event
  ReplaceJournal : List ℕ → Bool → Event
