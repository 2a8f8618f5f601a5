-- The token at fault, as the code finds it.
use Rattle.std.specs.Prelude.{◌<◌, if◌then◌else◌, ℕ, List, length, Option, Some, None}
use Rattle.dns_text.specs.Lexer.{Lexeme}
use Rattle.dns_zone_file.specs.declared.error.EntryFault.{EntryFault}
use Rattle.zone_lines.specs.Word.{BeginsRecord, IsRefused, IsTokenAtFault, is_final}
use Rattle.dns_zone_file.specs.declared.context.Context.{Context}
use Rattle.zone_lines.specs.declared.word.Standing.{Standing}
use Rattle.zone_lines.specs.declared.word.Standing.TheVariants.{Begins, Refused}

-- whether the tokens begin a record, or are refused, whatever follows them
abbrev pub Stands : Context → List Lexeme → Standing → Type 0
Stands c tokens Begins = BeginsRecord c tokens
Stands c tokens Refused = IsRefused c tokens

-- what tokens with a fault are
abbrev pub standing_of : EntryFault → Standing
standing_of refusal = if is_final refusal then Refused else Begins

-- an index of a token that is at fault
abbrev pub IsIndexAtFault : Context → List Lexeme → ℕ → Type 0
IsIndexAtFault c tokens index = IsTokenAtFault c tokens index × (index < length tokens)

-- the index of the token at fault, if there is one
abbrev pub HasIndexAtFault : Context → List Lexeme → Option ℕ → Type 0
HasIndexAtFault c tokens None = BeginsRecord c tokens
HasIndexAtFault c tokens (Some index) = IsIndexAtFault c tokens index
