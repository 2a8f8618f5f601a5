-- Names without a dot in the data of entries (RFC 1035 section 5.1).
use Rattle.std.specs.Prelude.{◌==◌, ◌&&◌, ◌||◌, not, Bool, false, List, drop, slice_get, Option, Some, Ok, Err}
use Rattle.std.specs.List.{list_any}
use Rattle.dns_wire.specs.declared.codes.record_type.RecordType.{RecordType}
use Rattle.dns_wire.specs.declared.codes.record_type.RecordType.TheVariants as types
use Rattle.dns_formats.specs.Data.{is_generic}
use Rattle.dns_text.specs.Lexer.{Lexeme, CharData}
use Rattle.dns_zone_file.specs.Fields.{fields_in}
use Rattle.dns_zone_file.specs.declared.types.Types.{Types}

-- whether there is a word, and it has no dot
abbrev pub is_dotless : Option Lexeme → Bool
is_dotless (Some (CharData text)) = not (list_any (λ c. c == 46) text)
is_dotless other = false

-- whether some name has no dot, by the places of the names among the words of data
abbrev pub names_dotless : RecordType → List Lexeme → Bool
names_dotless types.CNAME words = is_dotless (slice_get words 0)
names_dotless types.NS words = is_dotless (slice_get words 0)
names_dotless types.PTR words = is_dotless (slice_get words 0)
names_dotless types.MX words = is_dotless (slice_get words 1)
names_dotless types.SRV words = is_dotless (slice_get words 3)
names_dotless types.SOA words = is_dotless (slice_get words 0) || is_dotless (slice_get words 1)
names_dotless other words = false

-- whether some name in data has no dot; data in the generic form has no names (RFC 3597 section 5)
abbrev pub is_dotless_data : RecordType → List Lexeme → Bool
is_dotless_data record_type words = not (is_generic words) && names_dotless record_type words

-- whether some name in the data of an entry has no dot, so that the origin completes it
abbrev pub has_dotless_name : Types → List Lexeme → Bool
has_dotless_name types tokens = elim (fields_in types (drop 1 tokens)) [
  | Ok fields ↦ is_dotless_data fields.record_type fields.rdata
  | Err refusal ↦ false
]
