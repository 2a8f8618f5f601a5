-- Names from text (RFC 1035 section 5.1).
use Rattle.std.specs.Prelude.{ℕ, ◌+◌, ◌==◌, nat_le, nat_lt, ◌&&◌, ◌||◌, not, if◌then◌else◌, Bool, true, false, List, [], ◌∷◌, ◌++◌, length, take, Result, Ok, Err, zero, suc, ◌≡◌, ◌≤◌, Some}
use Rattle.std.specs.Option.{option_map_or}
use Rattle.std.specs.Str.{bytes_eq}
use Rattle.dns_wire.specs.Name.{max_name_len, name_len, IsLabel}
use Rattle.dns_names.specs.Name.{DomainName}
use Rattle.dns_wire.specs.codes.Decimal.{is_digit, decimal_up_to}
use Rattle.dns_names.specs.declared.error.ParseError.{ParseError}
use Rattle.dns_names.specs.declared.error.ParseError.TheVariants.{LabelBytesTooLong, EmptyLabel, DomainNameTooLong, Text}

-- ---- symbols

-- a dot between labels, an unescaped or escaped octet, or a backslash without a valid escape
pub data Symbol : Type 0 where
  Dot : Symbol
  Plain : ℕ → Symbol
  Escaped : ℕ → Symbol
  Broken : Symbol

-- three decimal digits up to 255 denote an octet
abbrev pub decimal_octet : List ℕ → Symbol
decimal_octet text = if nat_lt (length text) 3 then Broken else option_map_or Escaped (decimal_up_to 255 (take 3 text)) Broken

-- the symbol of an escape, from the text after its backslash: digits denote an octet, any other printable character itself
abbrev pub escape : List ℕ → Symbol
escape [] = Broken
escape (c ∷ cs) =
    if is_digit c then decimal_octet (c ∷ cs)
    else if nat_le 32 c && nat_le c 126 then Escaped c
    else Broken

-- the first symbol of a text: a dot, an escape after a backslash, or an unescaped character
abbrev pub symbol : List ℕ → Symbol
symbol [] = Broken
symbol (c ∷ cs) = if c == 46 then Dot else if c == 92 then escape cs else Plain c

-- how many characters an escape takes after its backslash
abbrev pub escape_len : List ℕ → ℕ
escape_len [] = 0
escape_len (c ∷ cs) = if is_digit c then 3 else 1

-- how many characters the first symbol of a text takes after its first character
abbrev pub more_len : List ℕ → ℕ
more_len [] = 0
more_len (c ∷ cs) = if c == 92 then escape_len cs else 0

-- a symbol and the place of its first character in the text
pub record SymbolAt : Type 0 where
  pub place : ℕ
  pub symbol : Symbol

-- the symbols of a text at a place, after `past` more characters of the symbol before
abbrev pub symbols_from : ℕ → ℕ → List ℕ → List SymbolAt
symbols_from past place [] = []
symbols_from zero place (c ∷ cs) =
    record { place = place; symbol = symbol (c ∷ cs) } ∷ symbols_from (more_len (c ∷ cs)) (place + 1) cs
symbols_from (suc past) place (c ∷ cs) = symbols_from past (place + 1) cs

-- ---- labels

-- a partly parsed name: its complete labels, and the octets of the current label
pub record PartialName : Type 0 where
  pub labels : List (List ℕ)
  pub label : List ℕ

-- A partly parsed name that is stored inline, without memory: at most 24 complete labels, and at most 32 octets with those
-- of the current label.
pub record IsInlinePartial (b : PartialName) : Type 0 where
  pub few : length b.labels ≤ 24
  pub short : name_len b.labels + length b.label ≤ length b.labels + 33

-- adds an octet to the current label, which may have 63
abbrev pub push_octet : PartialName → ℕ → Result PartialName ParseError
push_octet b c = if nat_lt (length b.label) 63 then Ok (record b { label = b.label ++ c ∷ [] }) else Err LabelBytesTooLong

-- ends the current label, which may not be empty; the name may be at most 255 bytes long
abbrev pub end_label : PartialName → Result PartialName ParseError
end_label b =
    if length b.label == 0 then Err EmptyLabel
    else if nat_lt max_name_len (name_len (b.labels ++ b.label ∷ [])) then Err DomainNameTooLong
    else Ok (record { labels = b.labels ++ b.label ∷ []; label = [] })

-- whether a character is in a range
abbrev pub is_between : ℕ → ℕ → ℕ → Bool
is_between low high c = nat_le low c && nat_le c high

-- what a label may contain unescaped: letters, digits and `_` anywhere, `*` only first, `-` not first
abbrev pub is_plain_octet : Bool → ℕ → Bool
is_plain_octet is_first c =
    is_between 97 122 c || is_between 65 90 c || is_digit c || c == 95 || (if is_first then c == 42 else c == 45)

-- the partly parsed name after a symbol: a dot ends a label, and an octet continues one
abbrev pub push_symbol : PartialName → SymbolAt → Result PartialName ParseError
push_symbol b p = elim p.symbol [
  | Dot ↦ end_label b
  | Plain c ↦ if is_plain_octet (length b.label == 0) c then push_octet b c else Err (Text p.place)
  | Escaped c ↦ push_octet b c
  | Broken ↦ Err (Text p.place)
]

-- ---- a name

-- the name at the end of the text: fully qualified after a dot, and otherwise with the current label as its last
abbrev pub finish : PartialName → Result DomainName ParseError
finish b =
    if length b.label == 0 then Ok (record { is_fqdn = not (length b.labels == 0); labels = b.labels })
    else elim (end_label b) [ Ok e ↦ Ok (record { is_fqdn = false; labels = e.labels }) | Err error ↦ Err error ]

-- adds the symbols from left to right, up to the first fault
abbrev pub name_of_symbols : PartialName → List SymbolAt → Result DomainName ParseError
name_of_symbols b [] = finish b
name_of_symbols b (p ∷ ps) = elim (push_symbol b p) [ Ok next ↦ name_of_symbols next ps | Err error ↦ Err error ]

-- The name that a text spells, or its first fault: a single dot is the root, and otherwise dots separate labels. The
-- length of a label is checked at its 64th octet, and that of the name at the end of a label.
unfoldable pub name_of_text : List ℕ → Result DomainName ParseError
name_of_text text =
    if bytes_eq text (46 ∷ []) then Ok (record { is_fqdn = true; labels = [] })
    else name_of_symbols (record { labels = []; label = [] }) (symbols_from 0 0 text)

-- Octets of a label, of which the first may be the label's first: an unescaped character, a backslash and three decimal
-- digits up to 255, or a backslash and another printable character.
pub data SpellsOctets : Bool → List ℕ → List ℕ → Type 0 where
  no_octet : {is_first : Bool} → SpellsOctets is_first [] []
  unescaped : {is_first : Bool} {c : ℕ} {text octets : List ℕ} → is_plain_octet is_first c ≡ true
      → SpellsOctets false text octets → SpellsOctets is_first (c ∷ text) (c ∷ octets)
  by_digits : {is_first : Bool} {x y z octet : ℕ} {text octets : List ℕ} → decimal_up_to 255 (x ∷ y ∷ z ∷ []) ≡ Some octet
      → SpellsOctets false text octets → SpellsOctets is_first (92 ∷ x ∷ y ∷ z ∷ text) (octet ∷ octets)
  by_character : {is_first : Bool} {c : ℕ} {text octets : List ℕ} → is_digit c ≡ false → 32 ≤ c → c ≤ 126
      → SpellsOctets false text octets → SpellsOctets is_first (92 ∷ c ∷ text) (c ∷ octets)

-- a label of 1 to 63 octets
abbrev pub SpellsLabel : List ℕ → List ℕ → Type 0
SpellsLabel text label = SpellsOctets true text label × IsLabel label

-- one or more labels, separated by dots
pub data SpellsLabels : List ℕ → List (List ℕ) → Type 0 where
  one_label : {text label : List ℕ} → SpellsLabel text label → SpellsLabels text (label ∷ [])
  more_labels : {text rest label : List ℕ} {labels : List (List ℕ)} → SpellsLabel text label
      → SpellsLabels rest labels → SpellsLabels (text ++ 46 ∷ rest) (label ∷ labels)

-- A name of at most 255 bytes: a dot is the root, the empty text the relative name without labels, and labels are a
-- relative name, or with a trailing dot a fully qualified one.
pub data Spells : List ℕ → DomainName → Type 0 where
  root : Spells (46 ∷ []) (record { is_fqdn = true; labels = [] })
  no_label : Spells [] (record { is_fqdn = false; labels = [] })
  relative : {text : List ℕ} {labels : List (List ℕ)} → SpellsLabels text labels → name_len labels ≤ max_name_len
      → Spells text (record { is_fqdn = false; labels = labels })
  fully_qualified : {text : List ℕ} {labels : List (List ℕ)} → SpellsLabels text labels → name_len labels ≤ max_name_len
      → Spells (text ++ 46 ∷ []) (record { is_fqdn = true; labels = labels })
