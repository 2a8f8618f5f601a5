-- Texts whose tokens are read as given bytes.
use Rattle.std.specs.Prelude.{◌≡◌, true, false, ℕ, List, [], Option, Some, None, Ok}
use Rattle.dns_names.specs.Name.{DomainName}
use Rattle.dns_text.specs.Lexer.{Lexeme, LexerState}
use Rattle.dns_text.specs.Tokens.{LexesTo}
use Rattle.dns_formats.specs.Field.{fields_of}
use Rattle.dns_formats.specs.Wire.{fits}
use Rattle.dns_formats.specs.Data.{data_bytes}
use Rattle.dns_formats.specs.declared.field.Field.{Field}

-- Bytes that data of a type may have: any, if the type has no format, and otherwise the values of its fields.
abbrev pub AreDataOf : Option (List Field) → List ℕ → Type 0
AreDataOf None bytes = Unit {0}
AreDataOf (Some fields) bytes = fits fields bytes ≡ true

-- The rest of a text has these tokens, and as data of the type with a number they are read as the bytes, whatever the origin
-- is.
pub record IsReadAs (number : ℕ) (p : LexerState) (bytes : List ℕ) : Type 0 where
  pub tokens : List Lexeme
  pub lexed : LexesTo p tokens (record p { text = []; is_front = false })
  pub read : (origin : Option DomainName) → data_bytes origin (fields_of number) tokens ≡ Ok bytes
