-- Parts of the text of record data.
use Rattle.std.specs.Prelude.{◌≡◌, ℕ, List, [], ◌∷◌, ◌++◌}
use Rattle.dns_text.specs.CharacterString.{quoted_text}
use Rattle.dns_text.specs.Lexer.{Lexeme, CharData}
use Rattle.dns_data.specs.declared.error.RDataParseError.{RDataParseError}
use Rattle.dns_data.specs.declared.error.RDataParseError.TheVariants.{MissingToken, InvalidToken}

-- the first token is no word, with this error
abbrev pub HasNoWord : List Lexeme → RDataParseError → Type 0
HasNoWord [] error = error ≡ MissingToken
HasNoWord (CharData text ∷ tokens) error = ⊥
HasNoWord (token ∷ tokens) error = error ≡ InvalidToken

-- character strings in quotes, each after a blank
abbrev pub more_strings_text : List (List ℕ) → List ℕ
more_strings_text [] = []
more_strings_text (string ∷ strings) = (32 ∷ quoted_text string) ++ more_strings_text strings
