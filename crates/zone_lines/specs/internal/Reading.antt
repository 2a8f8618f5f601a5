-- The entries of a text, as the code reads them.
use Rattle.std.specs.Prelude.{◌≡◌, ◌<◌, ◌≤◌, ◌+◌, ℕ, Bool, true, false, List, length, Some, None, Ok}
use Rattle.dns_text.specs.Lexer.{Lexeme, LexerState, NextToken}
use Rattle.dns_zone_file.specs.Entry.{Inclusion, LexesEntry, RefusesTokens}
use Rattle.dns_zone_file.specs.Parsing.{Includes, IncludesText, max_includes}
use Rattle.dns_zone_file.specs.declared.context.Context.{Context}
use Rattle.dns_zone_file.specs.declared.error.ZoneFileError.TheVariants as error
use Rattle.zone_lines.specs.Reading.{Generated, Takes, depth_fault, include_fault}
use Rattle.zone_lines.specs.Source.{source_of}
use Rattle.zone_lines.specs.declared.reading.Step.{Step}
use Rattle.zone_lines.specs.declared.reading.Step.TheVariants as step
use Rattle.zone_lines.specs.declared.record_line.EntryLine.TheVariants as kind
use Rattle.zone_lines.specs.declared.record_line.Position.{Position}
use Rattle.zone_lines.specs.declared.skip.Section.{Section}
use Rattle.zone_lines.specs.internal.Source.{source_view}

-- the whole of the text that a name denotes, where texts are included
pub record Enters (includes : Includes) (depth : ℕ) (closed : Bool) (i : Inclusion) (s : Section) : Type 0 where
  pub within : depth < max_includes
  pub open_is : closed ≡ false
  pub whole : s.base ≡ 0
  pub source : source_of includes i.name ≡ Some (source_view s)

-- what an entry is that includes a text: this text, nothing, or its fault
abbrev pub IncludeStep : Includes → ℕ → Bool → Position → Inclusion → Step → Type 0
IncludeStep includes depth closed at i (step.Includes s origin) = Enters includes depth closed i s × (origin ≡ i.origin)
IncludeStep includes depth closed at i step.Applied = (depth < max_includes) × (closed ≡ true)
IncludeStep includes depth closed at i (step.Found (kind.Fault f)) =
    (depth < max_includes) × (closed ≡ false) × (source_of includes i.name ≡ None)
    × (f ≡ include_fault at.source (error.IncludeNotFound at.line))
IncludeStep includes depth closed at i (step.Closes f) = (max_includes ≤ depth) × (f ≡ depth_fault at)
IncludeStep includes depth closed at i other = ⊥

-- the entry includes a text, at the start of which an origin applies
pub record IncludesAt (includes : Includes) (depth : ℕ) (closed : Bool) (c : Context) (tokens : List Lexeme) (s : Section)
    (i : Inclusion) : Type 0 where
  pub included : IncludesText c tokens i
  pub enters : Enters includes depth closed i s

-- the entry includes a text, which would be nested too deep
pub record IsTooDeep (depth : ℕ) (c : Context) (tokens : List Lexeme) (i : Inclusion) : Type 0 where
  pub included : IncludesText c tokens i
  pub deep : max_includes ≤ depth

-- what an entry at a place is, and the context after it
abbrev pub EntryStep : Includes → ℕ → Bool → Position → List Lexeme → Step → Context → Context → Type 0
EntryStep includes depth closed at tokens step.Applied c then = Takes includes depth closed c at tokens None then
EntryStep includes depth closed at tokens (step.Found e) c then = Takes includes depth closed c at tokens (Some e) then
EntryStep includes depth closed at tokens (step.Generated found) c then = Generated c at tokens found.items then
EntryStep includes depth closed at tokens (step.Includes s origin) c then =
    (i : Inclusion) × (IncludesAt includes depth closed c tokens s i × (origin ≡ i.origin) × (then ≡ c))
EntryStep includes depth closed at tokens (step.Closes f) c then =
    (i : Inclusion) × (IsTooDeep depth c tokens i × (f ≡ depth_fault at) × (then ≡ c))
EntryStep includes depth closed at tokens other c then = ⊥

-- the next entry of a text is one with this property, which is shorter than the text
pub record HasEntry (p next : LexerState) (P : List Lexeme → Type 0) : Type 0 where
  pub tokens : List Lexeme
  pub lexed : LexesEntry p tokens next
  pub holds : P tokens
  pub shorter : length next.text < length p.text

-- what the next entry of a text is that has so many lines before it, from a state of the lexer and a context to the next ones
abbrev pub TakesStep : Includes → ℕ → ℕ → ℕ → Bool → LexerState → Context → LexerState → Context → Step → Type 0
TakesStep includes depth source base closed p c next then step.Ended = NextToken p (Ok None) next × (then ≡ c)
TakesStep includes depth source base closed p c next then (step.Breaks entry refusal) =
    RefusesTokens p refusal × (entry ≡ p.entry) × (then ≡ c)
TakesStep includes depth source base closed p c next then other =
    HasEntry p next
    (λ tokens. EntryStep includes depth closed (record { source = source; line = base + p.entry }) tokens other c then)
