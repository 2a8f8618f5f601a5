-- Parsing of zone files (RFC 1035 section 5.1).
use Rattle.std.specs.Prelude.{◌≡◌, ◌+◌, ◌<◌, ◌≤◌, ℕ, true, List, [], find, Option, Some, None, option_map, Result, Ok, Err}
use Rattle.std.specs.Str.{bytes_eq}
use Rattle.dns_names.specs.Name.{DomainName}
use Rattle.dns_names.specs.Build.{root_name}
use Rattle.dns_wire.specs.declared.codes.dns_class.DNSClass.TheVariants as classes
use Rattle.dns_text.specs.Lexer.{Lexeme, LexerState, NextToken, start_with}
use Rattle.dns_text.specs.declared.error.LexerError.{LexerError}
use Rattle.dns_zone_file.specs.declared.error.EntryFault.{EntryFault}
use Rattle.dns_zone_file.specs.declared.error.EntryFault.TheVariants.{TooManyIncludes}
use Rattle.dns_zone_file.specs.declared.error.ZoneFileError.{ZoneFileError}
use Rattle.dns_zone_file.specs.declared.error.ZoneFileError.TheVariants.{Lexer, Entry, IncludeNotFound}
use Rattle.dns_zone_file.specs.declared.context.Context.{Context}
use Rattle.dns_zone_file.specs.declared.parser.ZoneRecords.{ZoneRecords}
use Rattle.dns_zone_file.specs.declared.types.Types.{Types}
use Rattle.dns_zone_file.specs.declared.types.Types.TheVariants.{Nine}
use Rattle.dns_zone_file.specs.Types.{quotes_of}
use Rattle.dns_zone_file.specs.Entry.{LexesEntry, RefusesTokens, nothing, origin_directive, ttl_directive, include_directive, record_entry, entry_of, Inclusion, origin_of, ttl_of, inclusion_of}
use Rattle.dns_zone_file.specs.Generate.{Generation, generate_of, generation_of, Generates}
use Rattle.dns_zone_file.specs.Context.{AddsRecord, RefusesRecord, included, resumed}

-- texts to include, by name
abbrev pub Includes : Type 0
Includes = List (List ℕ × List ℕ)

-- the first text of a name
abbrev pub text_of : Includes → List ℕ → Option (List ℕ)
text_of includes name = option_map (λ i. i.1) (find (λ i. bytes_eq i.0 name) includes)

-- at most so many texts are nested
abbrev pub max_includes : ℕ
max_includes = 16

-- ---- entries

-- The context after an entry that includes no text.
pub data Applies (c : Context) (tokens : List Lexeme) : Context → Type 0 where
  for_nothing : entry_of tokens ≡ nothing → Applies c tokens c
  for_origin : {arguments : List Lexeme} {origin : DomainName} → entry_of tokens ≡ origin_directive arguments
      → origin_of c.origin arguments ≡ Ok origin → Applies c tokens (record c { origin = origin })
  for_ttl : {arguments : List Lexeme} {ttl : ℕ} → entry_of tokens ≡ ttl_directive arguments
      → ttl_of arguments ≡ Ok ttl → Applies c tokens (record c { default_ttl = Some ttl })
  for_generate : {arguments : List Lexeme} {g : Generation} {next : Context} → entry_of tokens ≡ record_entry
      → generate_of c.types tokens ≡ Some arguments → generation_of arguments ≡ Ok g → Generates g c (Ok next)
      → Applies c tokens next
  for_record : {next : Context} → entry_of tokens ≡ record_entry → generate_of c.types tokens ≡ None
      → AddsRecord c tokens next → Applies c tokens next

-- The entry includes a text.
pub record IncludesText (c : Context) (tokens : List Lexeme) (i : Inclusion) : Type 0 where
  pub arguments : List Lexeme
  pub entry : entry_of tokens ≡ include_directive arguments
  pub read : inclusion_of c.origin arguments ≡ Ok i

-- The fault of an entry, and not of a text that it includes.
pub data RefusesEntry (c : Context) (tokens : List Lexeme) : EntryFault → Type 0 where
  bad_origin : {arguments : List Lexeme} {refusal : EntryFault} → entry_of tokens ≡ origin_directive arguments
      → origin_of c.origin arguments ≡ Err refusal → RefusesEntry c tokens refusal
  bad_ttl : {arguments : List Lexeme} {refusal : EntryFault} → entry_of tokens ≡ ttl_directive arguments
      → ttl_of arguments ≡ Err refusal → RefusesEntry c tokens refusal
  bad_include : {arguments : List Lexeme} {refusal : EntryFault} → entry_of tokens ≡ include_directive arguments
      → inclusion_of c.origin arguments ≡ Err refusal → RefusesEntry c tokens refusal
  bad_directive : {arguments : List Lexeme} {refusal : EntryFault} → entry_of tokens ≡ record_entry
      → generate_of c.types tokens ≡ Some arguments → generation_of arguments ≡ Err refusal → RefusesEntry c tokens refusal
  bad_generated : {arguments : List Lexeme} {g : Generation} {refusal : EntryFault} → entry_of tokens ≡ record_entry
      → generate_of c.types tokens ≡ Some arguments → generation_of arguments ≡ Ok g → Generates g c (Err refusal)
      → RefusesEntry c tokens refusal
  bad_record : {refusal : EntryFault} → entry_of tokens ≡ record_entry → generate_of c.types tokens ≡ None
      → RefusesRecord c tokens refusal → RefusesEntry c tokens refusal

-- ---- texts

-- the start of a text, whose quoted strings go as far as those of the whole file
abbrev pub start_in : Types → List ℕ → LexerState
start_in types text = start_with (quotes_of types) text

-- Parses includes depth c p outcome: the context at the end of a text, or the first fault, from a state of the lexer and a
-- context on. The text is nested in `depth` others.
pub data Parses (includes : Includes) : ℕ → Context → LexerState → Result Context ZoneFileError → Type 0 where
  ended : {depth : ℕ} {c : Context} {p end : LexerState} → NextToken p (Ok None) end → Parses includes depth c p (Ok c)
  bad_text : {depth : ℕ} {c : Context} {p : LexerState} {error : LexerError} → RefusesTokens p error
      → Parses includes depth c p (Err (Lexer error))
  bad_entry : {depth : ℕ} {c : Context} {p next : LexerState} {tokens : List Lexeme} {refusal : EntryFault}
      → LexesEntry p tokens next → RefusesEntry c tokens refusal → Parses includes depth c p (Err (Entry p.entry refusal))
  applied : {depth : ℕ} {c then : Context} {p next : LexerState} {tokens : List Lexeme} {outcome : Result Context ZoneFileError}
      → LexesEntry p tokens next → Applies c tokens then → Parses includes depth then next outcome
      → Parses includes depth c p outcome
  too_deep : {depth : ℕ} {c : Context} {p next : LexerState} {tokens : List Lexeme} {i : Inclusion}
      → LexesEntry p tokens next → IncludesText c tokens i → max_includes ≤ depth
      → Parses includes depth c p (Err (Entry p.entry TooManyIncludes))
  not_found : {depth : ℕ} {c : Context} {p next : LexerState} {tokens : List Lexeme} {i : Inclusion}
      → LexesEntry p tokens next → IncludesText c tokens i → depth < max_includes → text_of includes i.name ≡ None
      → Parses includes depth c p (Err (IncludeNotFound p.entry))
  bad_included : {depth : ℕ} {c : Context} {p next : LexerState} {tokens : List Lexeme} {i : Inclusion} {text : List ℕ}
      {error : ZoneFileError} → LexesEntry p tokens next → IncludesText c tokens i → depth < max_includes
      → text_of includes i.name ≡ Some text → Parses includes (depth + 1) (included c i.origin) (start_in c.types text) (Err error)
      → Parses includes depth c p (Err error)
  past_included : {depth : ℕ} {c after : Context} {p next : LexerState} {tokens : List Lexeme} {i : Inclusion} {text : List ℕ}
      {outcome : Result Context ZoneFileError} → LexesEntry p tokens next → IncludesText c tokens i → depth < max_includes
      → text_of includes i.name ≡ Some text → Parses includes (depth + 1) (included c i.origin) (start_in c.types text) (Ok after)
      → Parses includes depth (resumed c after) next outcome → Parses includes depth c p outcome

-- ---- files

-- the origin at the start of a file: the one that was given, fully qualified, or the root
abbrev pub start_origin : Option DomainName → DomainName
start_origin None = root_name
start_origin (Some origin) = record origin { is_fqdn = true }

-- the context at the start of a file: no owner, no TTL, no class and no record precedes it
abbrev pub context_in : Types → DomainName → Context
context_in types origin = record {
  types = types;
  origin = origin;
  owner = None;
  default_ttl = None;
  last_ttl = None;
  last_class = classes.IN;
  sets = [];
  first_soa = None;
}

-- the context at the start of a file of the types that have fields here
abbrev pub start_context : DomainName → Context
start_context origin = context_in Nine origin

-- the outcome of a file, by the types that it may have, with texts to include and perhaps an origin
abbrev pub ParsesIn : Types → Includes → Option DomainName → List ℕ → Result Context ZoneFileError → Type 0
ParsesIn types includes origin text outcome =
    Parses includes 0 (context_in types (start_origin origin)) (start_in types text) outcome

-- the outcome of a file of the types that have fields here
abbrev pub ParsesFile : Includes → Option DomainName → List ℕ → Result Context ZoneFileError → Type 0
ParsesFile includes origin text outcome = ParsesIn Nine includes origin text outcome

-- a file, with texts to include, perhaps an origin, and the types that it may have
pub record ZoneFile : Type 0 where
  pub text : List ℕ
  pub includes : Includes
  pub origin : Option DomainName
  pub types : Types

-- what a file contains, by the context at its end
abbrev pub zone_records : Context → ZoneRecords
zone_records c = record {
  origin = c.origin;
  sets = c.sets;
  soa_owner = option_map (λ soa. soa.owner) c.first_soa;
}

-- a file that contains these records
pub record HasRecords (file : ZoneFile) (records : ZoneRecords) : Type 0 where
  pub context : Context
  pub parses : ParsesIn file.types file.includes file.origin file.text (Ok context)
  pub records_are : records ≡ zone_records context
