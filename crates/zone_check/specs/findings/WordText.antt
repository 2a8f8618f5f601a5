-- What a word at fault says by itself.
use Rattle.std.specs.Prelude.{◌==◌, ◌&&◌, ◌||◌, if◌then◌else◌, ℕ, Bool, List, [], ◌∷◌, codes, Option, Some, None, option_map}
use Rattle.std.specs.Char.{is_ascii}
use Rattle.std.specs.List.{list_all, list_any}
use Rattle.std.specs.Str.{bytes_eq}
use Rattle.dns_wire.specs.codes.CodeText.{or_else}
use Rattle.dns_wire.specs.codes.RecordType.{type_number}
use Rattle.dns_wire.specs.declared.codes.record_type.RecordType.{RecordType}
use Rattle.dns_data.specs.declared.error.RDataParseError.TheVariants as rdata
use Rattle.dns_formats.specs.declared.fault.FormatFault.TheVariants as format
use Rattle.dns_formats.specs.declared.fault.TokenFault.TheVariants as token
use Rattle.dns_zone_file.specs.declared.error.EntryFault.{EntryFault}
use Rattle.dns_zone_file.specs.declared.error.EntryFault.TheVariants as entry
use Rattle.dns_zone_file.specs.declared.types.Types.{Types}
use Rattle.dns_zone_file.specs.declared.types.Types.TheVariants.{Nine, All}
use Rattle.zone_check.specs.findings.Finding.{Sentences}
use Rattle.zone_check.specs.findings.Shown.{is_within}
use Rattle.zone_check.specs.findings.ValueText.{value_sentences}

-- which directives a file of some types may have
abbrev pub directives : Types → List ℕ
directives Nine = codes "write $ORIGIN NAME or $TTL TIME, in capitals and at the start of a line; there are no others"
directives All =
    codes "write $ORIGIN NAME, $TTL TIME, $INCLUDE FILE or $GENERATE RANGE OWNER TYPE DATA, in capitals and at the start of a line; there are no others"

-- the first character of a word at fault: `#` does not begin a comment, and `$` begins a directive at the start of a line
abbrev pub mark_sentences : Types → List ℕ → Option Sentences
mark_sentences types [] = None
mark_sentences types (c ∷ cs) =
    if c == 35 then Some (record {
      reason = codes "not the start of a comment";
      hint = codes "write ; before a comment";
    })
    else if c == 36 then Some (record {
      reason = codes "not a directive here";
      hint = directives types;
    })
    else None

-- the first character of a word that is no name: a label does not begin with a hyphen
abbrev pub front_sentences : Types → List ℕ → Option Sentences
front_sentences types [] = None
front_sentences types (c ∷ cs) =
    if c == 45 then Some (record {
      reason = codes "a name that begins with a hyphen";
      hint = codes "write \\045 in place of the hyphen, if it is meant";
    })
    else mark_sentences types (c ∷ cs)

-- a word that is no name and has characters outside ASCII (RFC 5890 section 2.3.2.1); the reason is that of any other word
abbrev pub foreign_sentences : List ℕ → List ℕ → Option Sentences
foreign_sentences reason word =
    if list_all is_ascii word then None
    else Some (record { reason = reason; hint = codes "write the name in its ASCII form, as xn--bro-hoa" })

-- an owner that is no name
abbrev pub owner_sentences : Types → List ℕ → Option Sentences
owner_sentences types word = or_else (front_sentences types word) (foreign_sentences (codes "an owner that is not a name") word)

-- whether a character is a hexadecimal digit, a dot or a colon
abbrev pub is_ipv6_character : ℕ → Bool
is_ipv6_character c = is_within 48 57 c || is_within 65 70 c || is_within 97 102 c || c == 46 || c == 58

-- whether a word is such characters, with a colon, as an IPv6 address (RFC 4291 section 2.2)
abbrev pub is_ipv6 : List ℕ → Bool
is_ipv6 word = list_any (λ c. c == 58) word && list_all is_ipv6_character word

-- a word that is no name: an IPv6 address has colons, and a mail address an `@`
abbrev pub name_sentences : Types → List ℕ → Option Sentences
name_sentences types word =
    if is_ipv6 word then Some (record {
      reason = codes "an address where a name belongs";
      hint = codes "write the name of the host, and its address in an AAAA record";
    })
    else if list_any (λ c. c == 64) word then Some (record {
      reason = codes "a mail address, which a zone file writes as a name";
      hint = codes "write a dot in place of the @, as hostmaster.example.com., and a backslash before each dot in front of it";
    })
    else or_else (front_sentences types word) (foreign_sentences (codes "not a name") word)

-- a type whose data cannot be written here, and is that of another type: SPF (RFC 7208 section 3.1)
abbrev pub type_sentences : Option RecordType → Option Sentences
type_sentences None = None
type_sentences (Some type) =
    if type_number type == 99 then Some (record {
      reason = codes "a type whose data cannot be written here";
      hint = codes "write TXT in place of SPF, which is obsolete";
    })
    else None

-- how the arguments of a directive are written
abbrev pub directive_hint : List ℕ → Option (List ℕ)
directive_hint word =
    if bytes_eq word (codes "$ORIGIN") then Some (codes "write $ORIGIN NAME, and nothing after it")
    else if bytes_eq word (codes "$TTL") then Some (codes "write $TTL 1h, or another number with or without a unit, and nothing after it")
    else if bytes_eq word (codes "$INCLUDE") then Some (codes "write $INCLUDE FILE, and perhaps the origin of its names")
    else if bytes_eq word (codes "$GENERATE") then Some (codes "write $GENERATE RANGE OWNER TYPE DATA, as $GENERATE 1-9 host$ A 192.0.2.$")
    else None

-- a directive whose arguments are wrong
abbrev pub directive_sentences : List ℕ → Option Sentences
directive_sentences word =
    option_map (λ hint. record { reason = codes "a directive with a missing or invalid argument"; hint = hint }) (directive_hint word)

-- a word at fault, where it is no name or no value, in an entry that states a type or not
abbrev pub word_sentences : Types → EntryFault → List ℕ → Option RecordType → Option Sentences
word_sentences types entry.InvalidOwner word type = owner_sentences types word
word_sentences types (entry.InvalidData (rdata.Name error)) word type = name_sentences types word
word_sentences types entry.UnknownType word type = mark_sentences types word
word_sentences types (entry.InvalidData rdata.UnexpectedToken) word type = mark_sentences types word
word_sentences types (entry.InvalidFormat (format.UnexpectedToken place)) word type = mark_sentences types word
word_sentences types (entry.InvalidFormat (format.InvalidToken place (token.InvalidName offset))) word type =
    foreign_sentences (codes "not a name") word
word_sentences types (entry.InvalidData rdata.UnsupportedRecordType) word type = type_sentences type
word_sentences types entry.InvalidDirective word type = directive_sentences word
word_sentences types (entry.InvalidData rdata.InvalidToken) word type =
    or_else (mark_sentences types word) (value_sentences type word)
word_sentences types other word type = None
