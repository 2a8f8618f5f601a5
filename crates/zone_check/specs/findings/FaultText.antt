-- The sentences of faults.
use Rattle.std.specs.Prelude.{ℕ, Bool, true, false, List, codes, if◌then◌else◌, unwrap_or, Option, Some, None}
use Rattle.dns_wire.specs.codes.RecordType.{type_number}
use Rattle.dns_wire.specs.declared.codes.record_type.RecordType.{RecordType}
use Rattle.dns_data.specs.declared.error.RDataParseError.{RDataParseError}
use Rattle.dns_data.specs.declared.error.RDataParseError.TheVariants as rdata
use Rattle.dns_formats.specs.declared.fault.FormatFault.{FormatFault}
use Rattle.dns_formats.specs.declared.fault.FormatFault.TheVariants as format
use Rattle.dns_formats.specs.declared.fault.TokenFault.{TokenFault}
use Rattle.dns_formats.specs.declared.fault.TokenFault.TheVariants as token
use Rattle.dns_fields.specs.declared.service.fault.ServiceFault.TheVariants as service
use Rattle.dns_text.specs.declared.error.LexerError.{LexerError}
use Rattle.dns_text.specs.declared.error.LexerError.TheVariants as lexer
use Rattle.dns_zone.specs.declared.zone.ZoneFault.{ZoneFault}
use Rattle.dns_zone.specs.declared.zone.ZoneFault.TheVariants as fault
use Rattle.dns_zone_file.specs.declared.error.EntryFault.{EntryFault}
use Rattle.dns_zone_file.specs.declared.error.EntryFault.TheVariants as entry
use Rattle.dns_zone_file.specs.declared.error.ZoneFileError.{ZoneFileError}
use Rattle.dns_zone_file.specs.declared.error.ZoneFileError.TheVariants as file
use Rattle.dns_zone_file.specs.declared.types.Types.{Types}
use Rattle.dns_zone_file.specs.declared.types.Types.TheVariants.{All}
use Rattle.dns_zone_file.specs.declared.templates.fault.GenerateFault.{GenerateFault}
use Rattle.dns_zone_file.specs.declared.templates.fault.GenerateFault.TheVariants as generate
use Rattle.zone_check.specs.findings.Finding.{Sentences}
use Rattle.zone_check.specs.findings.FormText.{form_of}
use Rattle.zone_check.specs.findings.WordText.{word_sentences}

-- the types whose data can be written, if a file may not have all
abbrev pub types_hint : List ℕ
types_hint = codes "write one of A, AAAA, CNAME, MX, NS, PTR, SOA, SRV and TXT"

-- how data is written whose type tells no more
abbrev pub fields_hint : List ℕ
fields_hint = codes "write the fields of the type, or \\# LENGTH HEX with the bytes of such data"

-- how a name is written
abbrev pub name_hint : List ℕ
name_hint = codes "write labels of 1 to 63 letters, digits, _ and - (not first), at most 255 in all, and any other character as \\DDD"

-- ---- kinds of faults

-- data that is not of its type
abbrev pub data_sentences : RDataParseError → Sentences
data_sentences rdata.UnsupportedRecordType = record {
  reason = codes "a type whose data cannot be written here";
  hint = types_hint;
}
data_sentences rdata.MissingToken = record {
  reason = codes "data that ends before its last value";
  hint = codes "write all values of the type, the last ones perhaps on further lines between ( and )";
}
data_sentences rdata.InvalidToken = record {
  reason = codes "an invalid value for this type";
  hint = codes "write an IPv4 address for A, an IPv6 address for AAAA, PREFERENCE NAME for MX, PRIORITY WEIGHT PORT NAME for SRV, NAME NAME SERIAL and four times for SOA";
}
data_sentences rdata.UnexpectedToken = record {
  reason = codes "a word after the last value";
  hint = codes "remove it, or write ; before a comment";
}
data_sentences rdata.CharacterDataTooLong = record {
  reason = codes "a string of more than 255 bytes";
  hint = codes "write several strings, which are joined";
}
data_sentences (rdata.Name error) = record {
  reason = codes "not a name";
  hint = name_hint;
}
data_sentences rdata.Memory = record {
  reason = codes "out of memory";
  hint = codes "";
}

-- a word of data that is read as bytes
abbrev pub token_reason : TokenFault → List ℕ
token_reason token.NotAWord = codes "a quoted string or an @ where another word belongs"
token_reason token.NotANumber = codes "not a number, or one that is too great here"
token_reason token.InvalidEscape = codes "a backslash without an escape after it"
token_reason token.StringTooLong = codes "a string of more than 255 bytes"
token_reason token.NotATag = codes "not a tag of letters and digits"
token_reason token.NotAType = codes "not a type"
token_reason token.NotATime = codes "neither seconds since 1970 nor a time as 20300131235959"
token_reason token.NotHex = codes "not pairs of hexadecimal digits"
token_reason token.NotBase64 = codes "not base64"
token_reason token.NotBase32 = codes "not base32hex"
token_reason token.NotAMnemonic = codes "neither a number nor a mnemonic that is known here"
token_reason (token.Parameter fault) = codes "not a parameter of a service binding"
token_reason token.NotParameters = codes "parameters of a service binding that do not belong together"
token_reason (token.Location fault) = codes "not a location"
token_reason token.Memory = codes "out of memory"
token_reason other = codes "not a name"

-- data that is read as bytes, and is not of its type
abbrev pub format_sentences : FormatFault → Sentences
format_sentences (format.MissingToken place) = data_sentences rdata.MissingToken
format_sentences (format.UnexpectedToken place) = data_sentences rdata.UnexpectedToken
format_sentences (format.InvalidToken place (token.Parameter service.Repeated)) = record {
  reason = codes "a parameter whose key occurs twice";
  hint = codes "remove one of them";
}
format_sentences (format.InvalidToken place fault) = record { reason = token_reason fault; hint = fields_hint }
format_sentences format.WrongLength = record {
  reason = codes "data of more or fewer bytes than it says";
  hint = codes "write \\# and the number of bytes that follow in hexadecimal digits";
}
format_sentences format.NotOfType = record { reason = codes "bytes that are not data of this type"; hint = fields_hint }
format_sentences other = record { reason = codes "data that does not have the fields of its type"; hint = fields_hint }

-- a `$GENERATE` that makes no records
abbrev pub generate_sentences : GenerateFault → Sentences
generate_sentences generate.InvalidRange = record {
  reason = codes "a $GENERATE whose range cannot be read";
  hint = codes "write $GENERATE START-STOP OWNER TYPE DATA, as $GENERATE 1-9 host$ A 192.0.2.$";
}
generate_sentences generate.TooManyNumbers = record {
  reason = codes "a $GENERATE of more than 65,536 records";
  hint = codes "divide its range, and write several";
}
generate_sentences generate.InvalidTemplate = record {
  reason = codes "a ${ that does not begin the form of a number";
  hint = codes "write ${OFFSET,WIDTH,BASE}, as ${0,3,d}, and $$ for a dollar sign";
}
generate_sentences generate.NegativeNumber = record {
  reason = codes "a number of a $GENERATE below 0 or above 2147483647";
  hint = codes "write another offset or range";
}
generate_sentences generate.NumberTooGreat = record {
  reason = codes "a number of a $GENERATE below 0 or above 2147483647";
  hint = codes "write another offset or range";
}
generate_sentences generate.Memory = record {
  reason = codes "out of memory";
  hint = codes "";
}

-- an entry that is not a record or a directive
abbrev pub entry_sentences : EntryFault → Sentences
entry_sentences entry.NoOwner = record {
  reason = codes "a blank at the start of the line, and no record above to take the owner from";
  hint = codes "write the owner at the start of the line, or @ for the origin";
}
entry_sentences entry.InvalidOwner = record {
  reason = codes "an owner that is not a name";
  hint = name_hint;
}
entry_sentences entry.InvalidTtl = record {
  reason = codes "a word that begins with a digit and is not a time";
  hint = codes "write seconds up to 4294967295, or numbers with units, as 1h30m; a type comes before its data";
}
entry_sentences entry.RepeatedField = record {
  reason = codes "a second TTL or class";
  hint = codes "remove one of them";
}
entry_sentences entry.MissingType = record {
  reason = codes "an entry that ends before its type";
  hint = codes "write OWNER TTL TYPE DATA; the TTL may be left out";
}
entry_sentences entry.UnknownType = record {
  reason = codes "not a type that is known here";
  hint = types_hint;
}
entry_sentences (entry.InvalidData error) = data_sentences error
entry_sentences (entry.InvalidFormat error) = format_sentences error
entry_sentences entry.NoData = record {
  reason = codes "data of no bytes, which a record of a zone cannot have here";
  hint = codes "remove the record";
}
entry_sentences entry.NoTtl = record {
  reason = codes "the TTL is missing, and no default applies";
  hint = codes "write $TTL 3600 at the top of the file";
}
entry_sentences entry.ClassMismatch = record {
  reason = codes "another class than the records above of this owner and type";
  hint = codes "leave the class out, or write IN";
}
entry_sentences entry.InvalidDirective = record {
  reason = codes "a directive with a missing or invalid argument";
  hint = codes "write $ORIGIN NAME or $TTL TIME, and nothing after it";
}
entry_sentences (entry.InvalidGenerate refusal) = generate_sentences refusal
entry_sentences entry.TooManyIncludes = record {
  reason = codes "more than 16 nested files";
  hint = codes "include fewer files, and no file from itself";
}

-- characters that are not tokens
abbrev pub lexer_sentences : LexerError → Sentences
lexer_sentences (lexer.UnclosedQuotedString line) = record {
  reason = codes "a quoted string that does not end on its line";
  hint = codes "write \" at its end, and \\\" for a quotation mark inside it";
}
lexer_sentences (lexer.UnclosedList line) = record {
  reason = codes "a parenthesis that is not closed";
  hint = codes "write ) after the last value of the entry that begins here";
}
lexer_sentences (lexer.NestedList line) = record {
  reason = codes "a parenthesis inside another";
  hint = codes "write one pair of parentheses in an entry; the one before this may lack its )";
}
lexer_sentences (lexer.UnopenedList line) = record {
  reason = codes "a closing parenthesis without an opening one";
  hint = codes "remove it, or write ( before the first line break of the entry";
}
lexer_sentences (lexer.LoneBackslash line) = record {
  reason = codes "a backslash at the end of a line";
  hint = codes "remove it; parentheses continue an entry on the next line";
}

-- a text that is not a zone file
abbrev pub common_sentences : ZoneFileError → Sentences
common_sentences (file.Lexer error) = lexer_sentences error
common_sentences (file.Entry line refusal) = entry_sentences refusal
common_sentences (file.IncludeNotFound line) = record {
  reason = codes "no other file is included here";
  hint = codes "write the records of that file into this one";
}
common_sentences file.Memory = record {
  reason = codes "out of memory";
  hint = codes "";
}

-- what is said only of a text that may have all types, and include others
abbrev pub own_sentences : Types → ZoneFileError → Option Sentences
own_sentences All (file.Lexer (lexer.UnclosedQuotedString line)) = Some (record {
  reason = codes "a quoted string that does not end";
  hint = codes "write \" at its end, and \\\" for a quotation mark inside it";
})
own_sentences All (file.Entry line entry.UnknownType) = Some (record {
  reason = codes "not a type that is known here";
  hint = codes "write a type, as A, MX or CAA, or TYPE and its number";
})
own_sentences All (file.Entry line (entry.InvalidData rdata.UnsupportedRecordType)) = Some (record {
  reason = codes "a type whose data cannot be written here";
  hint = codes "write \\# LENGTH HEX with the bytes of the data, if records have the type";
})
own_sentences All (file.Entry line entry.InvalidDirective) = Some (record {
  reason = codes "a directive with a missing or invalid argument";
  hint = codes "write $ORIGIN NAME, $TTL TIME, $INCLUDE FILE and perhaps its origin, or $GENERATE RANGE OWNER TYPE DATA, on one line";
})
own_sentences All (file.IncludeNotFound line) = Some (record {
  reason = codes "a file to include that cannot be read";
  hint = codes "write the path of a file in the folder of the zone file or below it, or pass --include-anywhere";
})
own_sentences types error = None

-- a text that is not a zone file of some types
abbrev pub file_sentences : Types → ZoneFileError → Sentences
file_sentences types error = unwrap_or (own_sentences types error) (common_sentences error)

-- a file that is not a zone's
abbrev pub fault_sentences : Types → ZoneFault → Sentences
fault_sentences types (fault.Parse error) = file_sentences types error
fault_sentences types fault.NotInternet = record {
  reason = codes "a record whose class is not IN";
  hint = codes "leave the class out, or write IN";
}
fault_sentences types fault.OutsideOrigin = record {
  reason = codes "an owner outside the zone's origin";
  hint = codes "write $ORIGIN and the origin above it, pass --origin, or end the owner in the origin and a dot";
}
fault_sentences types fault.NoSoa = record {
  reason = codes "no SOA record at the zone's origin";
  hint = codes "write: @ 3600 IN SOA ns hostmaster ( 1 1h 10m 1d 30 )";
}
fault_sentences types fault.SoaElsewhere = record {
  reason = codes "an SOA record elsewhere than at the zone's origin";
  hint = codes "remove it: a file has one zone";
}
fault_sentences types fault.DataTooLong = record {
  reason = codes "data of more than 65,535 bytes";
  hint = codes "write shorter strings, or several records";
}
fault_sentences types fault.Memory = record {
  reason = codes "out of memory";
  hint = codes "";
}

-- ---- words at fault

-- whether a fault is that data that is read as bytes does not have the fields of its type: a parameter that is repeated has its
-- form
abbrev pub is_about_format : FormatFault → Bool
is_about_format (format.MissingToken place) = true
is_about_format (format.InvalidToken place (token.Parameter service.Repeated)) = false
is_about_format (format.InvalidToken place fault) = true
is_about_format other = false

-- whether a fault is that data does not have the fields of its type
abbrev pub is_about_fields : EntryFault → Bool
is_about_fields (entry.InvalidData rdata.MissingToken) = true
is_about_fields (entry.InvalidData rdata.InvalidToken) = true
is_about_fields (entry.InvalidFormat refusal) = is_about_format refusal
is_about_fields other = false

-- the sentences of a fault of an entry, with how the data of the type that it states is written, if the data is at fault and this
-- is known
abbrev pub with_form : EntryFault → Option RecordType → Sentences → Sentences
with_form refusal None said = said
with_form refusal (Some type) said =
    if is_about_fields refusal then (record said { hint = unwrap_or (form_of (type_number type)) said.hint }) else said

-- the sentences of a fault of a file of some types, whose word is known or not, in an entry that states a type or not: those of
-- the word, or else of the kind of the fault
abbrev pub advice_on : Types → ZoneFileError → Option (List ℕ) → Option RecordType → Sentences
advice_on types (file.Entry line refusal) (Some word) type =
    unwrap_or (word_sentences types refusal word type) (with_form refusal type (file_sentences types (file.Entry line refusal)))
advice_on types (file.Entry line refusal) None type = with_form refusal type (file_sentences types (file.Entry line refusal))
advice_on types error word type = file_sentences types error
