-- What the entries of a zone file are, with their places (RFC 1035 section 5.1). A fault ends its entry, and not the file. What
-- an entry is, its record and its fault are those of `dns_zone_file`.
use Rattle.std.specs.Prelude.{◌≡◌, ◌==◌, ◌+◌, ◌<◌, ◌≤◌, not, ℕ, zero, suc, Bool, true, false, List, [], ◌∷◌, ◌++◌, length, drop, is_some, string_bytes, Option, Some, None, option_map, Ok, Err}
use Rattle.std.specs.Option.{option_eq, option_map_or, option_to_list}
use Rattle.std.specs.Str.{IsUtf8}
use Rattle.dns_wire.specs.codes.CodeText.{or_else}
use Rattle.dns_wire.specs.declared.codes.record_type.RecordType.{RecordType}
use Rattle.dns_wire.specs.declared.codes.record_type.RecordType.TheVariants as types
use Rattle.dns_names.specs.Name.{DomainName}
use Rattle.dns_data.specs.rdata.{data_type}
use Rattle.dns_records.specs.Record.{Record}
use Rattle.dns_records.specs.RecordSet.{RecordSetValue}
use Rattle.dns_text.specs.Error.{line_of}
use Rattle.dns_text.specs.Lexer.{Lexeme, LexerState, NextToken}
use Rattle.dns_text.specs.declared.error.LexerError.{LexerError}
use Rattle.dns_text.specs.declared.error.LexerError.TheVariants as lexer
use Rattle.dns_zone_file.specs.Context.{ReadsRecord, RefusesRecord, after_record, included, owner_of, resumed}
use Rattle.dns_zone_file.specs.Entry.{LexesEntry, RefusesTokens, Inclusion, nothing, origin_directive, ttl_directive, record_entry, entry_of, origin_of, ttl_of}
use Rattle.dns_zone_file.specs.Fields.{fields_in}
use Rattle.dns_zone_file.specs.Generate.{Generation, generate_of, generation_of}
use Rattle.dns_zone_file.specs.Parsing.{Includes, IncludesText, RefusesEntry, context_in, max_includes, start_in, start_origin}
use Rattle.dns_zone_file.specs.RecordSets.{set_of, inserted_in, has_other_class}
use Rattle.dns_zone_file.specs.declared.context.Context.{Context}
use Rattle.dns_zone_file.specs.declared.error.EntryFault.{EntryFault}
use Rattle.dns_zone_file.specs.declared.error.EntryFault.TheVariants as fault
use Rattle.dns_zone_file.specs.declared.error.ZoneFileError.{ZoneFileError}
use Rattle.dns_zone_file.specs.declared.error.ZoneFileError.TheVariants as error
use Rattle.dns_zone_file.specs.declared.types.Types.{Types}
use Rattle.dns_zone_file.specs.templates.Range.{number_at}
use Rattle.dns_zone_file.specs.templates.Template.{expanded}
use Rattle.dns_zone_file.specs.declared.templates.fault.GenerateFault.{GenerateFault}
use Rattle.zone_lines.specs.Dotless.{has_dotless_name}
use Rattle.zone_lines.specs.Skip.{Resumes}
use Rattle.zone_lines.specs.Source.{FileText, source_of}
use Rattle.zone_lines.specs.Word.{HasFaultyToken, names_start}
use Rattle.zone_lines.specs.declared.record_line.Earlier.{Earlier}
use Rattle.zone_lines.specs.declared.record_line.EntryLine.{EntryLine}
use Rattle.zone_lines.specs.declared.record_line.EntryLine.TheVariants as kind
use Rattle.zone_lines.specs.declared.record_line.FaultLine.{FaultLine}
use Rattle.zone_lines.specs.declared.record_line.Position.{Position}
use Rattle.zone_lines.specs.declared.record_line.RecordLine.{RecordLine}

-- ---- records

-- the set of a record's owner and type
abbrev pub set_for : List RecordSetValue → Record → Option RecordSetValue
set_for sets r = set_of sets r.name (data_type r.rdata)

-- the number of its records, if there is such a set
abbrev pub count_of : List RecordSetValue → Record → Option ℕ
count_of sets r = option_map (λ s. length s.records) (set_for sets r)

-- whether the set of a record's owner and type has another TTL
abbrev pub has_other_ttl : List RecordSetValue → Record → Bool
has_other_ttl sets r = option_map_or (λ s. not (s.ttl == r.ttl)) (set_for sets r) false

-- what the sets are to a record that is inserted in them
abbrev pub earlier_of : List RecordSetValue → Record → Earlier
earlier_of sets r = record {
  exists = is_some (count_of sets r);
  has_other_ttl = has_other_ttl sets r;
  is_no_more = option_eq ◌==◌ (count_of (inserted_in sets r) r) (count_of sets r);
}

-- a record at a place, and whether it has a name without a dot
abbrev pub record_on : Position → List RecordSetValue → Bool → Record → RecordLine
record_on at sets dotless r = record {
  at = at;
  owner = r.name;
  ttl = r.ttl;
  dns_class = r.dns_class;
  rdata = r.rdata;
  has_dotless_name = dotless;
  earlier = earlier_of sets r;
}

-- the record of an entry at a place, and the context after it
pub record AddsLine (c : Context) (at : Position) (tokens : List Lexeme) (found : RecordLine) (then : Context) : Type 0 where
  pub stated : Option ℕ
  pub added : Record
  pub reads : ReadsRecord c tokens stated added
  pub class_fits : has_other_class c.sets added ≡ false
  pub found_is : found ≡ record_on at c.sets (has_dotless_name c.types tokens) added
  pub after : then ≡ after_record c stated added

-- ---- faults

-- the owner of an entry with a fault, if it can be read, is that of the next record that states none
abbrev pub owner_after : Context → List Lexeme → Option DomainName
owner_after c tokens = elim (owner_of c tokens) [ Ok owner ↦ Some owner | Err refusal ↦ c.owner ]

-- So is its TTL. One that is missing is taken as 0, so that it is missing only once.
abbrev pub ttl_after : Context → List Lexeme → EntryFault → Option ℕ
ttl_after c tokens fault.NoTtl = Some 0
ttl_after c tokens other = elim (fields_in c.types (drop 1 tokens)) [
  | Ok fields ↦ or_else fields.ttl c.last_ttl
  | Err refusal ↦ c.last_ttl
]

-- the context after an entry with a fault
abbrev pub after_fault : Context → List Lexeme → EntryFault → Context
after_fault c tokens refusal = elim (entry_of tokens) [
  | record_entry ↦ record c { owner = owner_after c tokens; last_ttl = ttl_after c tokens refusal }
  | other ↦ c
]

-- the type that an entry states, if it can be read
abbrev pub type_of_entry : Types → List Lexeme → Option RecordType
type_of_entry types tokens = elim (fields_in types (drop 1 tokens)) [ Ok fields ↦ Some fields.record_type | Err refusal ↦ None ]

-- a name, unless it has no labels
abbrev pub unless_root : DomainName → List (List ℕ) → Option DomainName
unless_root name [] = None
unless_root name (label ∷ labels) = Some name

-- the origin that completes names, unless it is the root
abbrev pub stated_origin : Context → Option DomainName
stated_origin c = unless_root c.origin c.origin.labels

-- the owner of an entry, if it can be read, or else the origin
abbrev pub owner_or_origin : Context → List Lexeme → Option DomainName
owner_or_origin c tokens = elim (owner_of c tokens) [ Ok owner ↦ Some owner | Err refusal ↦ stated_origin c ]

-- the same of an entry of the type SOA
abbrev pub apex_of_type : Context → List Lexeme → Option RecordType → Option DomainName
apex_of_type c tokens (Some types.SOA) = owner_or_origin c tokens
apex_of_type c tokens other = None

-- the origin of the zone, if an entry with a fault is meant as an SOA record
abbrev pub meant_apex : Context → List Lexeme → Option DomainName
meant_apex c tokens = apex_of_type c tokens (type_of_entry c.types tokens)

-- what an entry is that a `$GENERATE` begins, if it has a range and a template
abbrev pub directive_with : Option (List Lexeme) → Option Generation
directive_with None = None
directive_with (Some arguments) = elim (generation_of arguments) [ Ok directive ↦ Some directive | Err refusal ↦ None ]

-- the `$GENERATE` that an entry of these tokens is, if it is one with a range and a template
abbrev pub directive_of : Types → List Lexeme → Option Generation
directive_of types tokens = directive_with (generate_of types tokens)

-- a fault of an entry that is no such directive: one of the text of a record that it makes is not the entry's
pub record RefusesAlone (c : Context) (tokens : List Lexeme) (refusal : EntryFault) : Type 0 where
  pub refused : RefusesEntry c tokens refusal
  pub alone : directive_of c.types tokens ≡ None

-- a fault with the token at fault among those of an entry, and whether the entry may be meant as an SOA record
pub record IsFaultLine (c : Context) (at : Position) (tokens : List Lexeme) (refusal : EntryFault) (found : FaultLine)
    : Type 0 where
  pub source_is : found.source ≡ at.source
  pub error_is : found.error ≡ error.Entry at.line refusal
  pub word_is : HasFaultyToken c tokens (option_map string_bytes found.word)
  pub type_is : found.record_type ≡ type_of_entry c.types tokens
  pub start_is : found.may_be_start ≡ names_start tokens
  pub apex_is : found.apex ≡ meant_apex c tokens

-- the fault of an entry that includes a text, or of one of whose tokens nothing is known
abbrev pub include_fault : ℕ → ZoneFileError → FaultLine
include_fault source refusal = record {
  source = source;
  error = refusal;
  word = None;
  record_type = None;
  may_be_start = false;
  apex = None;
}

-- the fault of an entry, at the text that the entry is in
abbrev pub fault_at : Position → EntryFault → FaultLine
fault_at at refusal = include_fault at.source (error.Entry at.line refusal)

-- ---- the lines of a `$GENERATE`

-- AddsEntry at tokens c found then: the record of an entry, or its fault, and the context after it. A fault leaves the context as
-- it is.
pub data AddsEntry (at : Position) (tokens : List Lexeme) (c : Context) : EntryLine → Context → Type 0 where
  entry_added : {found : RecordLine} {then : Context} → AddsLine c at tokens found then
      → AddsEntry at tokens c (kind.Record found) then
  entry_refused : {refusal : EntryFault} {found : FaultLine} → RefusesRecord c tokens refusal → IsFaultLine c at tokens refusal found
      → AddsEntry at tokens c (kind.Fault found) c

-- a text that has no entry in a context: it is not UTF-8, has no tokens, or has a fault before the end of its first entry
pub data HasNoEntry (c : Context) (line : List ℕ) : Type 0 where
  not_utf8 : ¬ IsUtf8 line → HasNoEntry c line
  no_tokens : {end : LexerState} → NextToken (start_in c.types line) (Ok None) end → HasNoEntry c line
  bad_tokens : {refusal : LexerError} → RefusesTokens (start_in c.types line) refusal → HasNoEntry c line

-- the same of the first entry of a text
pub data AddsText (at : Position) (line : List ℕ) (c : Context) : EntryLine → Context → Type 0 where
  no_entry : HasNoEntry c line → AddsText at line c (kind.Fault (fault_at at fault.InvalidDirective)) c
  one_entry : {tokens : List Lexeme} {next : LexerState} {found : EntryLine} {then : Context} → IsUtf8 line
      → LexesEntry (start_in c.types line) tokens next → AddsEntry at tokens c found then → AddsText at line c found then

-- the same of the text of a number
pub data AddsNumber (at : Position) (template : List ℕ) (number : ℕ) (c : Context) : EntryLine → Context → Type 0 where
  bad_text : {refusal : GenerateFault} → expanded number template ≡ Err refusal
      → AddsNumber at template number c (kind.Fault (fault_at at (fault.InvalidGenerate refusal))) c
  of_text : {line : List ℕ} {found : EntryLine} {then : Context} → expanded number template ≡ Ok line
      → AddsText at line c found then → AddsNumber at template number c found then

-- AddsNumbers at g place count c found then: the records of the last `count` numbers of a directive, from the number at a place
-- on, up to the first fault
pub data AddsNumbers (at : Position) (g : Generation) : ℕ → ℕ → Context → List EntryLine → Context → Type 0 where
  no_number : {place : ℕ} {c : Context} → AddsNumbers at g place zero c [] c
  last_number : {place count : ℕ} {c then : Context} {f : FaultLine}
      → AddsNumber at g.template (number_at g.numbers place) c (kind.Fault f) then
      → AddsNumbers at g place (suc count) c (kind.Fault f ∷ []) then
  one_number : {place count : ℕ} {c then last : Context} {r : RecordLine} {more : List EntryLine}
      → AddsNumber at g.template (number_at g.numbers place) c (kind.Record r) then
      → AddsNumbers at g (place + 1) count then more last → AddsNumbers at g place (suc count) c (kind.Record r ∷ more) last

-- the records of a directive
abbrev pub GeneratesLines : Position → Generation → Context → List EntryLine → Context → Type 0
GeneratesLines at g c found then = AddsNumbers at g 0 g.numbers.count c found then

-- an entry that is a directive, its records, and the context after them
pub record Generated (c : Context) (at : Position) (tokens : List Lexeme) (found : List EntryLine) (then : Context) : Type 0 where
  pub directive : Generation
  pub reads : directive_of c.types tokens ≡ Some directive
  pub generates : GeneratesLines at directive c found then

-- ---- entries

-- the context after an entry that is nothing, or a directive that includes no text
pub data Directs (c : Context) (tokens : List Lexeme) : Context → Type 0 where
  for_nothing : entry_of tokens ≡ nothing → Directs c tokens c
  for_origin : {arguments : List Lexeme} {origin : DomainName} → entry_of tokens ≡ origin_directive arguments
      → origin_of c.origin arguments ≡ Ok origin → Directs c tokens (record c { origin = origin })
  for_ttl : {arguments : List Lexeme} {ttl : ℕ} → entry_of tokens ≡ ttl_directive arguments
      → ttl_of arguments ≡ Ok ttl → Directs c tokens (record c { default_ttl = Some ttl })

-- Takes includes depth closed c at tokens found then: what an entry at a place is, unless it is nothing or a directive, and the
-- context after it. The entry is no `$GENERATE`, and includes no text, or one that is missing, or no texts are included any more.
pub data Takes (includes : Includes) (depth : ℕ) (closed : Bool) (c : Context) (at : Position) (tokens : List Lexeme)
    : Option EntryLine → Context → Type 0 where
  no_record : {then : Context} → Directs c tokens then → Takes includes depth closed c at tokens None then
  one_record : {found : RecordLine} {then : Context} → entry_of tokens ≡ record_entry → generate_of c.types tokens ≡ None
      → AddsLine c at tokens found then
      → Takes includes depth closed c at tokens (Some (kind.Record found)) then
  no_more_texts : {i : Inclusion} → IncludesText c tokens i → depth < max_includes → closed ≡ true
      → Takes includes depth closed c at tokens None c
  no_text : {i : Inclusion} → IncludesText c tokens i → depth < max_includes → closed ≡ false → source_of includes i.name ≡ None
      → Takes includes depth closed c at tokens (Some (kind.Fault (include_fault at.source (error.IncludeNotFound at.line)))) c
  one_fault : {refusal : EntryFault} {found : FaultLine} → RefusesAlone c tokens refusal → IsFaultLine c at tokens refusal found
      → Takes includes depth closed c at tokens (Some (kind.Fault found)) (after_fault c tokens refusal)

-- the fault of an entry that includes a text which would be nested too deep
abbrev pub depth_fault : Position → FaultLine
depth_fault at = fault_at at fault.TooManyIncludes

-- ---- texts

-- the fault of a text with the number of its line moved
abbrev pub moved : ℕ → LexerError → LexerError
moved base (lexer.UnclosedQuotedString line) = lexer.UnclosedQuotedString (base + line)
moved base (lexer.UnclosedList line) = lexer.UnclosedList (base + line)
moved base (lexer.NestedList line) = lexer.NestedList (base + line)
moved base (lexer.UnopenedList line) = lexer.UnopenedList (base + line)
moved base (lexer.LoneBackslash line) = lexer.LoneBackslash (base + line)

-- where a text has a fault, there may be an SOA record, perhaps of the origin
abbrev pub text_fault : ℕ → ℕ → Option DomainName → LexerError → FaultLine
text_fault source base origin refusal = record {
  source = source;
  error = error.Lexer (moved base refusal);
  word = None;
  record_type = None;
  may_be_start = true;
  apex = origin;
}

-- Reads includes depth source base text closed c p found shut last: the entries of the rest of a text, from a state of the lexer
-- and a context on, and the context at its end. The text is one of the file, without its first `base` lines, and nested in `depth`
-- others.
-- After a fault of the text, reading goes on after the entry. Once a text would be nested too deep, no others are included.
pub data Reads (includes : Includes)
    : (depth source base : ℕ) → List ℕ → Bool → Context → LexerState → List EntryLine → Bool → Context → Type 0 where
  ended : {depth source base : ℕ} {text : List ℕ} {closed : Bool} {c : Context} {p end : LexerState} → NextToken p (Ok None) end
      → Reads includes depth source base text closed c p [] closed c
  past_fault : {depth source base next : ℕ} {text rest : List ℕ} {closed shut : Bool} {c last : Context} {p : LexerState}
      {refusal : LexerError} {more : List EntryLine} → RefusesTokens p refusal
      → Resumes base text p.entry (line_of refusal) next rest
      → Reads includes depth source next rest closed c (start_in c.types rest) more shut last
      → Reads includes depth source base text closed c p (kind.Fault (text_fault source base (stated_origin c) refusal) ∷ more) shut last
  past_entry : {depth source base : ℕ} {text : List ℕ} {closed shut : Bool} {c then last : Context} {p next : LexerState}
      {tokens : List Lexeme} {found : Option EntryLine} {more : List EntryLine} → LexesEntry p tokens next
      → Takes includes depth closed c (record { source = source; line = base + p.entry }) tokens found then
      → Reads includes depth source base text closed then next more shut last
      → Reads includes depth source base text closed c p (option_to_list found ++ more) shut last
  past_generated : {depth source base : ℕ} {text : List ℕ} {closed shut : Bool} {c then last : Context} {p next : LexerState}
      {tokens : List Lexeme} {found more : List EntryLine} → LexesEntry p tokens next
      → Generated c (record { source = source; line = base + p.entry }) tokens found then
      → Reads includes depth source base text closed then next more shut last
      → Reads includes depth source base text closed c p (found ++ more) shut last
  too_deep : {depth source base : ℕ} {text : List ℕ} {closed shut : Bool} {c last : Context} {p next : LexerState}
      {tokens : List Lexeme} {i : Inclusion} {more : List EntryLine} → LexesEntry p tokens next → IncludesText c tokens i
      → max_includes ≤ depth → Reads includes depth source base text true c next more shut last
      → Reads includes depth source base text closed c p
      (kind.Fault (depth_fault (record { source = source; line = base + p.entry })) ∷ more) shut last
  past_included : {depth source base number : ℕ} {text whole : List ℕ} {between shut : Bool} {c after last : Context}
      {p next : LexerState} {tokens : List Lexeme} {i : Inclusion} {found more : List EntryLine} → LexesEntry p tokens next → IncludesText c tokens i
      → depth < max_includes → source_of includes i.name ≡ Some (record { number = number; text = whole })
      → Reads includes (depth + 1) number 0 whole false (included c i.origin) (start_in c.types whole) found between after
      → Reads includes depth source base text between (resumed c after) next more shut last
      → Reads includes depth source base text false c p (found ++ more) shut last

-- the entries of a file with perhaps an origin, in order: its records and its faults, and those of the texts that it includes
pub record ReadsFile (file : FileText) (origin : Option DomainName) (found : List EntryLine) : Type 0 where
  pub shut : Bool
  pub last : Context
  pub reads : Reads file.includes 0 0 0 file.text false (context_in file.types (start_origin origin))
      (start_in file.types file.text) found shut last
