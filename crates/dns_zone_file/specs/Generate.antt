-- The records of a `$GENERATE` (BIND's extension): `$GENERATE RANGE OWNER [TTL] [CLASS] TYPE DATA`.
use Rattle.std.specs.Prelude.{◌≡◌, ◌+◌, ◌==◌, ℕ, zero, suc, nat_lt, if◌then◌else◌, Bool, List, [], ◌∷◌, ◌++◌, codes, flat_map, length, Option, Some, None, Result, Ok, Err}
use Rattle.std.specs.List.{list_any}
use Rattle.std.specs.Str.{bytes_eq, IsUtf8}
use Rattle.dns_zone_file.specs.templates.Range.{range_of, number_at}
use Rattle.dns_zone_file.specs.templates.Template.{expanded}
use Rattle.dns_zone_file.specs.declared.templates.range.Range.{Range}
use Rattle.dns_zone_file.specs.declared.templates.fault.GenerateFault.{GenerateFault}
use Rattle.dns_text.specs.Lexer.{Lexeme, CharData, QuotedString, At, LexerState, NextToken, start_with}
use Rattle.dns_text.specs.declared.error.LexerError.{LexerError}
use Rattle.dns_zone_file.specs.declared.error.EntryFault.{EntryFault}
use Rattle.dns_zone_file.specs.declared.error.EntryFault.TheVariants.{InvalidDirective, InvalidGenerate}
use Rattle.dns_zone_file.specs.declared.context.Context.{Context}
use Rattle.dns_zone_file.specs.declared.types.Types.{Types}
use Rattle.dns_zone_file.specs.declared.types.Types.TheVariants.{Nine, All}
use Rattle.dns_zone_file.specs.Types.{quotes_of}
use Rattle.dns_zone_file.specs.Entry.{LexesEntry, RefusesTokens}
use Rattle.dns_zone_file.specs.Context.{AddsRecord, RefusesRecord}

-- ---- the directive

-- the arguments after the word `$GENERATE` at the start of an entry
abbrev pub after_word : List Lexeme → Option (List Lexeme)
after_word (CharData text ∷ arguments) = if bytes_eq text (codes "$GENERATE") then Some arguments else None
after_word other = None

-- the arguments of a `$GENERATE`, which only a file of all types has
abbrev pub generate_of : Types → List Lexeme → Option (List Lexeme)
generate_of Nine tokens = None
generate_of All tokens = after_word tokens

-- the text of an argument: a word, or what is between quotes
abbrev pub argument_text : Lexeme → List ℕ
argument_text (CharData text) = text
argument_text (QuotedString text) = text
argument_text At = codes "@"
argument_text other = []

-- the template of a record: the arguments with a blank after each
abbrev pub template_of : List Lexeme → List ℕ
template_of arguments = flat_map (λ argument. argument_text argument ++ 32 ∷ []) arguments

-- how many characters a template may have
abbrev pub max_template : ℕ
max_template = 1024

-- whether a text has a line feed
abbrev pub has_line_feed : List ℕ → Bool
has_line_feed text = list_any (λ c. c == 10) text

-- the numbers of a directive, and the template of a record
pub record Generation : Type 0 where
  pub numbers : Range
  pub template : List ℕ

-- a directive of a range and a template, which is on one line and not too long
abbrev pub generation_with : Result Range GenerateFault → List ℕ → Result Generation EntryFault
generation_with (Err fault) template = Err (InvalidGenerate fault)
generation_with (Ok numbers) template =
    if has_line_feed template then Err InvalidDirective
    else if nat_lt max_template (length template) then Err InvalidDirective
    else Ok (record { numbers = numbers; template = template })

-- what the arguments of a `$GENERATE` say: a range, and the fields of a record
abbrev pub generation_of : List Lexeme → Result Generation EntryFault
generation_of (CharData text ∷ fields) = generation_with (range_of text) (template_of fields)
generation_of other = Err InvalidDirective

-- ---- its records

-- The record of a text's first entry is added to a context, or the first fault of the entry.
pub data AddsFirst (c : Context) (p : LexerState) : Result Context EntryFault → Type 0 where
  no_entry : {end : LexerState} → NextToken p (Ok None) end → AddsFirst c p (Err InvalidDirective)
  bad_tokens : {error : LexerError} → RefusesTokens p error → AddsFirst c p (Err InvalidDirective)
  bad_record : {next : LexerState} {tokens : List Lexeme} {refusal : EntryFault} → LexesEntry p tokens next
      → RefusesRecord c tokens refusal → AddsFirst c p (Err refusal)
  one_record : {next : LexerState} {tokens : List Lexeme} {after : Context} → LexesEntry p tokens next
      → AddsRecord c tokens after → AddsFirst c p (Ok after)

-- The record of a line is added to a context, or the first fault of the line, which is UTF-8 as every text is.
pub data AddsLine (c : Context) (line : List ℕ) : Result Context EntryFault → Type 0 where
  no_text : ¬ IsUtf8 line → AddsLine c line (Err InvalidDirective)
  of_text : {outcome : Result Context EntryFault} → IsUtf8 line → AddsFirst c (start_with (quotes_of c.types) line) outcome
      → AddsLine c line outcome

-- The record of a number is added to a context, or its first fault.
pub data AddsNumber (c : Context) (template : List ℕ) (number : ℕ) : Result Context EntryFault → Type 0 where
  bad_text : {fault : GenerateFault} → expanded number template ≡ Err fault
      → AddsNumber c template number (Err (InvalidGenerate fault))
  of_line : {line : List ℕ} {outcome : Result Context EntryFault} → expanded number template ≡ Ok line
      → AddsLine c line outcome → AddsNumber c template number outcome

-- The records of the last `count` numbers of a directive, from the number at a place on, are added one after another, up to
-- the first fault.
pub data AddsEach (g : Generation) : ℕ → ℕ → Context → Result Context EntryFault → Type 0 where
  no_more : {place : ℕ} {c : Context} → AddsEach g place zero c (Ok c)
  bad_number : {place count : ℕ} {c : Context} {refusal : EntryFault}
      → AddsNumber c g.template (number_at g.numbers place) (Err refusal) → AddsEach g place (suc count) c (Err refusal)
  one_more : {place count : ℕ} {c after : Context} {outcome : Result Context EntryFault}
      → AddsNumber c g.template (number_at g.numbers place) (Ok after) → AddsEach g (place + 1) count after outcome
      → AddsEach g place (suc count) c outcome

-- what a directive does to a context
abbrev pub Generates : Generation → Context → Result Context EntryFault → Type 0
Generates g c outcome = AddsEach g 0 g.numbers.count c outcome
