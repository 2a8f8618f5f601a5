-- Parsing of zone files, as the code divides it.
use Rattle.std.specs.Prelude.{◌≡◌, ◌<◌, ◌≤◌, ℕ, Bool, true, false, List, map, length, Some, None, Result, Ok, Err, String, string_bytes}
use Rattle.std.specs.declared.alloc.Global.{Global}
use Rattle.dns_text.specs.Lexer.{Lexeme, LexerState, NextToken}
use Rattle.dns_text.specs.declared.error.LexerError.{LexerError}
use Rattle.dns_zone_file.specs.declared.error.EntryFault.TheVariants.{TooManyIncludes}
use Rattle.dns_zone_file.specs.declared.error.ZoneFileError.{ZoneFileError}
use Rattle.dns_zone_file.specs.declared.error.ZoneFileError.TheVariants.{Entry, IncludeNotFound}
use Rattle.dns_zone_file.specs.declared.context.Context.{Context}
use Rattle.dns_zone_file.specs.declared.parser.Step.{Step}
use Rattle.dns_zone_file.specs.declared.parser.Step.TheVariants as step
use Rattle.dns_zone_file.specs.Entry.{LexesEntry, Inclusion}
use Rattle.dns_zone_file.specs.internal.Entry.{inclusion_view}
use Rattle.dns_zone_file.specs.Parsing.{Includes, Parses, IncludesText, text_of, max_includes}

-- texts to include, as bytes
abbrev pub includes_view : List (String Global × String Global) → Includes
includes_view includes = map (λ i. (string_bytes i.0, string_bytes i.1)) includes

-- the entry includes a text
pub record IncludesAt (p : LexerState) (c : Context) (i : Inclusion) (next : LexerState) : Type 0 where
  pub tokens : List Lexeme
  pub lexed : LexesEntry p tokens next
  pub included : IncludesText c tokens i

-- what the rest of a text leads to, the whole text leads to
abbrev pub LeadsFrom : LexerState → Context → LexerState → Context → Type 0
LeadsFrom p c next then =
    (includes : Includes) (depth : ℕ) (outcome : Result Context ZoneFileError)
    → Parses includes depth then next outcome → Parses includes depth c p outcome

-- the outcome of a text, whatever may be included
abbrev pub Ends : LexerState → Context → Result Context ZoneFileError → Type 0
Ends p c outcome = (includes : Includes) (depth : ℕ) → Parses includes depth c p outcome

-- what the next entry does, from a state of the lexer and a context to the next ones
abbrev pub TakesStep : Step → LexerState → Context → LexerState → Context → Type 0
TakesStep step.Ended p c next then = Ends p c (Ok then)
TakesStep step.Applied p c next then = LeadsFrom p c next then × (length next.text < length p.text)
TakesStep (step.Includes line i) p c next then =
    IncludesAt p c (inclusion_view i) next × (line ≡ p.entry) × (then ≡ c) × (length next.text < length p.text)

-- an `$INCLUDE` on a line has no text
abbrev pub RefusesInclude : Includes → ℕ → ℕ → List ℕ → ZoneFileError → Type 0
RefusesInclude includes depth line name (Entry at refusal) =
    (at ≡ line) × (refusal ≡ TooManyIncludes) × (max_includes ≤ depth)
RefusesInclude includes depth line name (IncludeNotFound at) =
    (at ≡ line) × (depth < max_includes) × (text_of includes name ≡ None)
RefusesInclude includes depth line name other = ⊥

-- whether no token follows, or the fault of the first one
abbrev pub HasNoToken : LexerState → Result Bool LexerError → Type 0
HasNoToken p (Ok true) = (end : LexerState) × NextToken p (Ok None) end
HasNoToken p (Ok false) = (token : Lexeme) × ((end : LexerState) × NextToken p (Ok (Some token)) end)
HasNoToken p (Err error) = (end : LexerState) × NextToken p (Err error) end
