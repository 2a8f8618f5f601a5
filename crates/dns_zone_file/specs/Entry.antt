-- The entries of a zone file (RFC 1035 section 5.1).
use Rattle.std.specs.Prelude.{◌≢◌, ℕ, if◌then◌else◌, List, [], ◌∷◌, codes, Option, Some, None, Result, Ok, Err}
use Rattle.std.specs.Char.{is_ascii}
use Rattle.std.specs.List.{list_all}
use Rattle.dns_names.specs.Name.{DomainName}
use Rattle.dns_text.specs.Lexer.{Lexeme, Blank, CharData, QuotedString, At, Include, Origin, Ttl, EOL, LexerState, NextToken}
use Rattle.dns_text.specs.Ttl.{time}
use Rattle.dns_text.specs.declared.error.LexerError.{LexerError}
use Rattle.dns_zone_file.specs.declared.error.EntryFault.{EntryFault}
use Rattle.dns_zone_file.specs.declared.error.EntryFault.TheVariants.{InvalidDirective}
use Rattle.dns_zone_file.specs.Fields.{name_of}

-- The tokens of an entry, up to the end of its line outside parentheses, or to the end of the text.
pub data LexesEntry : LexerState → List Lexeme → LexerState → Type 0 where
  line_end : {p next : LexerState} → NextToken p (Ok (Some EOL)) next → LexesEntry p [] next
  text_end : {p next end : LexerState} {token : Lexeme} → NextToken p (Ok (Some token)) next → token ≢ EOL
      → NextToken next (Ok None) end → LexesEntry p (token ∷ []) end
  one_token : {p next end : LexerState} {token : Lexeme} {tokens : List Lexeme} → NextToken p (Ok (Some token)) next
      → token ≢ EOL → LexesEntry next tokens end → LexesEntry p (token ∷ tokens) end

-- A fault of the text comes before the end of the entry.
pub data RefusesTokens : LexerState → LexerError → Type 0 where
  at_fault : {p end : LexerState} {error : LexerError} → NextToken p (Err error) end → RefusesTokens p error
  past_token : {p next : LexerState} {token : Lexeme} {error : LexerError} → NextToken p (Ok (Some token)) next
      → token ≢ EOL → RefusesTokens next error → RefusesTokens p error

-- what an entry is: nothing, a directive with its arguments, or a record
pub data Entry : Type 0 where
  nothing : Entry
  origin_directive : List Lexeme → Entry
  ttl_directive : List Lexeme → Entry
  include_directive : List Lexeme → Entry
  record_entry : Entry

-- What an entry is, by its first token: nothing if there is none or only blanks, a directive, or else a record.
abbrev pub entry_of : List Lexeme → Entry
entry_of [] = nothing
entry_of (Blank ∷ []) = nothing
entry_of (Origin ∷ arguments) = origin_directive arguments
entry_of (Ttl ∷ arguments) = ttl_directive arguments
entry_of (Include ∷ arguments) = include_directive arguments
entry_of tokens = record_entry

-- ---- arguments of directives

-- what is there, or else the fault of an invalid directive
abbrev pub or_invalid : {X : Type 0} → Option X → Result X EntryFault
or_invalid (Some x) = Ok x
or_invalid None = Err InvalidDirective

-- `$ORIGIN` has a name
abbrev pub origin_of : DomainName → List Lexeme → Result DomainName EntryFault
origin_of origin (token ∷ []) = or_invalid (name_of origin token)
origin_of origin other = Err InvalidDirective

-- `$TTL` has a time (RFC 2308 section 4)
abbrev pub ttl_of : List Lexeme → Result ℕ EntryFault
ttl_of (CharData text ∷ []) = or_invalid (time text)
ttl_of other = Err InvalidDirective

-- the text, if it has no octet above 127
abbrev pub ascii_text : List ℕ → Option (List ℕ)
ascii_text text = if list_all is_ascii text then Some text else None

-- the name of a text, as it is written, quoted or not; it is ASCII
abbrev pub text_name : Lexeme → Option (List ℕ)
text_name (CharData text) = ascii_text text
text_name (QuotedString text) = ascii_text text
text_name At = Some (codes "@")
text_name other = None

-- the name of a text to include, and the origin at its start
pub record Inclusion : Type 0 where
  pub name : List ℕ
  pub origin : DomainName

-- a text to include with its origin, if both are valid
abbrev pub inclusion : Option (List ℕ) → Option DomainName → Result Inclusion EntryFault
inclusion (Some name) (Some origin) = Ok (record { name = name; origin = origin })
inclusion _ _ = Err InvalidDirective

-- `$INCLUDE` has the name of a text and perhaps an origin, which otherwise stays
abbrev pub inclusion_of : DomainName → List Lexeme → Result Inclusion EntryFault
inclusion_of origin (token ∷ []) = inclusion (text_name token) (Some origin)
inclusion_of origin (token ∷ name ∷ []) = inclusion (text_name token) (name_of origin name)
inclusion_of origin other = Err InvalidDirective
