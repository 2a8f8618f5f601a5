-- The statements of keys.
use Rattle.std.specs.Prelude.{ℕ, List}
use Rattle.dns_keys.specs.declared.statement.Part.{Part}

-- a statement within a key, and the text after it
pub record ClauseParts : Type 0 where
  pub part : Part
  pub value : List ℕ
  pub rest : List ℕ

-- the words of a key, and the text after its statement
pub record StatementParts : Type 0 where
  pub name : List ℕ
  pub algorithm : List ℕ
  pub secret : List ℕ
  pub rest : List ℕ
