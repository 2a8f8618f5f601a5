-- A word, and the text after it.
use Rattle.std.specs.Prelude.{ℕ, List}

-- a word without its quotation marks, and the text after it
pub record WordParts : Type 0 where
  pub text : List ℕ
  pub rest : List ℕ
