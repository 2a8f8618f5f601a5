-- The token at fault in an entry: the last of the first tokens that are refused, whatever follows them.
use Rattle.std.specs.Prelude.{◌≡◌, ◌<◌, ◌+◌, ℕ, Bool, true, false, List, [], take, codes, slice_get, Option, Some, None}
use Rattle.std.specs.List.{list_any}
use Rattle.std.specs.Option.{SomeIff}
use Rattle.std.specs.Str.{IsUtf8, str_eq_ignore_ascii_case}
use Rattle.dns_data.specs.declared.error.RDataParseError.TheVariants.{MissingToken}
use Rattle.dns_formats.specs.declared.fault.FormatFault.{FormatFault}
use Rattle.dns_formats.specs.declared.fault.FormatFault.TheVariants as format
use Rattle.dns_formats.specs.declared.fault.TokenFault.{TokenFault}
use Rattle.dns_formats.specs.declared.fault.TokenFault.TheVariants.{NotHex, NotBase64, NotParameters, Location}
use Rattle.dns_fields.specs.declared.location.fault.LocationFault.{LocationFault}
use Rattle.dns_fields.specs.declared.location.fault.LocationFault.TheVariants.{InvalidLatitude, InvalidLongitude, InvalidAltitude}
use Rattle.dns_text.specs.Lexer.{Lexeme, Blank, CharData, QuotedString, At, Include, Origin, Ttl, EOL}
use Rattle.dns_records.specs.Record.{Record}
use Rattle.dns_zone_file.specs.declared.error.EntryFault.{EntryFault}
use Rattle.dns_zone_file.specs.Context.{ReadsRecord, RefusesRecord}
use Rattle.dns_zone_file.specs.declared.context.Context.{Context}
use Rattle.dns_zone_file.specs.declared.error.EntryFault.TheVariants.{MissingType, InvalidData, InvalidFormat, NoTtl, ClassMismatch}

-- how a token is written, a string without its quotes; blanks and the end of an entry are no text
abbrev pub IsTokenText : Lexeme → Option (List ℕ) → Type 0
IsTokenText (CharData text) found = SomeIff found (IsUtf8 text) text
IsTokenText (QuotedString text) found = SomeIff found (IsUtf8 text) text
IsTokenText At found = found ≡ Some (codes "@")
IsTokenText Include found = found ≡ Some (codes "$INCLUDE")
IsTokenText Origin found = found ≡ Some (codes "$ORIGIN")
IsTokenText Ttl found = found ≡ Some (codes "$TTL")
IsTokenText Blank found = found ≡ None
IsTokenText EOL found = found ≡ None

-- Whether the fault of a location stays, whatever tokens follow: not if one of the fields that it must have may be unfinished.
abbrev pub is_final_location : LocationFault → Bool
is_final_location InvalidLatitude = false
is_final_location InvalidLongitude = false
is_final_location InvalidAltitude = false
is_final_location other = true

-- Whether the fault of a field stays, whatever tokens follow: not if it takes all tokens, as digits, parameters and locations do.
abbrev pub is_final_token : TokenFault → Bool
is_final_token NotHex = false
is_final_token NotBase64 = false
is_final_token NotParameters = false
is_final_token (Location refusal) = is_final_location refusal
is_final_token other = true

-- Whether a fault of data that is read as bytes stays, whatever tokens follow: not if a token is missing at the end.
abbrev pub is_final_format : FormatFault → Bool
is_final_format (format.MissingToken token) = false
is_final_format format.WrongLength = false
is_final_format (format.InvalidToken token refusal) = is_final_token refusal
is_final_format other = true

-- Whether a fault stays, whatever tokens follow: not if a token is missing at the end, or if it is not one of the tokens.
abbrev pub is_final : EntryFault → Bool
is_final MissingType = false
is_final (InvalidData MissingToken) = false
is_final (InvalidFormat refusal) = is_final_format refusal
is_final NoTtl = false
is_final ClassMismatch = false
is_final other = true

-- the tokens are refused as those of a record, whatever follows them
pub record IsRefused (c : Context) (tokens : List Lexeme) : Type 0 where
  pub fault : EntryFault
  pub refused : RefusesRecord c tokens fault
  pub final : is_final fault ≡ true

-- the tokens are a record, or have a fault that further tokens may mend
pub data BeginsRecord (c : Context) (tokens : List Lexeme) : Type 0 where
  is_record : {stated : Option ℕ} {r : Record} → ReadsRecord c tokens stated r → BeginsRecord c tokens
  may_be_one : {refusal : EntryFault} → RefusesRecord c tokens refusal → is_final refusal ≡ false → BeginsRecord c tokens

-- The token at an index is at fault: with it and those before it the entry is refused, whatever follows, and with those before
-- it alone it is not.
pub record IsTokenAtFault (c : Context) (tokens : List Lexeme) (index : ℕ) : Type 0 where
  pub before : 0 < index → BeginsRecord c (take index tokens)
  pub refused : IsRefused c (take (index + 1) tokens)

-- The token at fault in the tokens of an entry, as it is written. There is none if the tokens begin a record.
pub data HasFaultyToken (c : Context) (tokens : List Lexeme) : Option (List ℕ) → Type 0 where
  no_token : tokens ≡ [] → HasFaultyToken c tokens None
  at_token : {index : ℕ} {token : Lexeme} {found : Option (List ℕ)} → IsTokenAtFault c tokens index
      → slice_get tokens index ≡ Some token → IsTokenText token found → HasFaultyToken c tokens found
  at_none : BeginsRecord c tokens → HasFaultyToken c tokens None

-- whether a token is the word `SOA`, in any case
abbrev pub is_start_word : Lexeme → Bool
is_start_word (CharData text) = str_eq_ignore_ascii_case text (codes "SOA")
is_start_word other = false

-- whether some token is the word `SOA`, so that the entry may be meant as an SOA record
abbrev pub names_start : List Lexeme → Bool
names_start tokens = list_any is_start_word tokens
