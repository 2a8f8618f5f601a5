-- Which record types a zone file may have, and by which names.
use Rattle.std.specs.Prelude.{ℕ, ◌==◌, if◌then◌else◌, List, [], ◌∷◌, codes, find, Option, option_map}
use Rattle.std.specs.Str.{str_eq_ignore_ascii_case}
use Rattle.dns_wire.specs.codes.CodeText.{type_of_text, or_else}
use Rattle.dns_wire.specs.codes.RecordType.{type_of}
use Rattle.dns_wire.specs.declared.codes.record_type.RecordType.{RecordType}
use Rattle.dns_text.specs.declared.quotes.Quotes.{Quotes}
use Rattle.dns_text.specs.declared.quotes.Quotes.TheVariants.{OneLine, ManyLines}
use Rattle.dns_zone_file.specs.declared.types.Types.{Types}
use Rattle.dns_zone_file.specs.declared.types.Types.TheVariants.{Nine, All}

-- how far the quoted strings of a zone file may go
abbrev pub quotes_of : Types → Quotes
quotes_of Nine = OneLine
quotes_of All = ManyLines

-- the name of a type of zone files alone, by its number (IANA registry of RR types), empty for any other
abbrev pub further_name : ℕ → List ℕ
further_name number =
    if number == 17 then codes "RP"
    else if number == 18 then codes "AFSDB"
    else if number == 21 then codes "RT"
    else if number == 29 then codes "LOC"
    else if number == 36 then codes "KX"
    else if number == 42 then codes "APL"
    else if number == 45 then codes "IPSECKEY"
    else if number == 49 then codes "DHCID"
    else if number == 55 then codes "HIP"
    else if number == 63 then codes "ZONEMD"
    else if number == 99 then codes "SPF"
    else if number == 104 then codes "NID"
    else if number == 105 then codes "L32"
    else if number == 106 then codes "L64"
    else if number == 107 then codes "LP"
    else if number == 108 then codes "EUI48"
    else if number == 109 then codes "EUI64"
    else if number == 256 then codes "URI"
    else if number == 260 then codes "AMTRELAY"
    else []

-- the numbers of these types
abbrev pub further_numbers : List ℕ
further_numbers =
    17 ∷ 18 ∷ 21 ∷ 29 ∷ 36 ∷ 42 ∷ 45 ∷ 49 ∷ 55 ∷ 63 ∷ 99 ∷ 104 ∷ 105 ∷ 106 ∷ 107 ∷ 108 ∷ 109 ∷ 256 ∷ 260 ∷ []

-- the type that such a name denotes, in any case
abbrev pub further_type : List ℕ → Option RecordType
further_type text = option_map type_of (find (λ number. str_eq_ignore_ascii_case (further_name number) text) further_numbers)

-- The type that a word denotes: a name in any case, or `TYPE` and a number (RFC 3597 section 5).
abbrev pub type_in : Types → List ℕ → Option RecordType
type_in Nine text = type_of_text text
type_in All text = or_else (type_of_text text) (further_type text)
