-- Parameters in text (RFC 9460 section 2.1 and appendix A).
use Rattle.std.specs.Prelude.{ℕ, zero, suc, ◌+◌, ◌-◌, ◌/◌, ◌%◌, ◌==◌, ◌&&◌, ◌||◌, nat_le, if◌then◌else◌, Bool, true, false, List, [], ◌∷◌, ◌++◌, length, take, drop, get_or, slice_index, Option, Some, None, codes}
use Rattle.std.specs.Fmt.{decimal}
use Rattle.base64.specs.Engines.{standard}
use Rattle.base64.specs.GeneralPurpose.{encode_of}
use Rattle.hex.specs.Hex.{lower_digits}
use Rattle.dns_names.specs.Print.{escape_sequence}
use Rattle.dns_fields.specs.service.Key.{keys}
use Rattle.dns_fields.specs.service.Wire.{key_at, len_at, front_value}
use Rattle.dns_fields.specs.declared.service.list.Item.{Item}
use Rattle.dns_fields.specs.declared.service.list.Item.TheVariants.{Key, Protocol, Address4, Address6}

-- ---- words

-- a printable character that neither ends a word nor begins an escape (RFC 1035 section 5.1)
abbrev pub is_plain_octet : ℕ → Bool
is_plain_octet c =
    if c == 34 || (c == 40 || (c == 41 || (c == 59 || c == 92))) then false else nat_le 33 c && nat_le c 126

-- an octet of a word: itself if it needs no escape, and else `\DDD`
abbrev pub octet_text : ℕ → List ℕ
octet_text c = if is_plain_octet c then c ∷ [] else escape_sequence c

-- the text of octets within a word
abbrev pub word_text : List ℕ → List ℕ
word_text [] = []
word_text (c ∷ cs) = octet_text c ++ word_text cs

-- ---- keys

-- the name of a key, in a table
abbrev pub name_among : List (List ℕ × ℕ) → ℕ → Option (List ℕ)
name_among [] key = None
name_among (line ∷ lines) key = if line.1 == key then Some line.0 else name_among lines key

-- the name, or `key` and the number
abbrev pub name_or_number : Option (List ℕ) → ℕ → List ℕ
name_or_number None key = codes "key" ++ decimal key
name_or_number (Some name) key = name

-- the name of a key, or `key` and its number if it has none
abbrev pub key_name : ℕ → List ℕ
key_name key = name_or_number (name_among keys key) key

-- ---- items of lists

-- an octet of an identifier in a list: a comma and a backslash follow a backslash (RFC 9460 appendix A.1)
abbrev pub item_octet : ℕ → List ℕ
item_octet c = if c == 44 || c == 92 then 92 ∷ c ∷ [] else c ∷ []

-- an identifier in a list
abbrev pub item_text : List ℕ → List ℕ
item_text [] = []
item_text (c ∷ cs) = item_octet c ++ item_text cs

-- four decimal numbers, separated by dots
abbrev pub dotted : ℕ → ℕ → ℕ → ℕ → List ℕ
dotted a b c d = decimal a ++ 46 ∷ decimal b ++ 46 ∷ decimal c ++ 46 ∷ decimal d

-- an IPv4 address
abbrev pub ipv4_text : List ℕ → List ℕ
ipv4_text bytes = dotted (get_or bytes 0 0) (get_or bytes 1 0) (get_or bytes 2 0) (get_or bytes 3 0)

-- a byte as two hexadecimal digits
abbrev pub hex_pair : ℕ → List ℕ
hex_pair c = slice_index lower_digits (c / 16) ∷ slice_index lower_digits (c % 16) ∷ []

-- a group of an address: the two bytes at the front, in four digits
abbrev pub group_text : List ℕ → List ℕ
group_text bytes = hex_pair (get_or bytes 0 0) ++ hex_pair (get_or bytes 1 0)

-- so many groups, a colon before each
abbrev pub more_groups : ℕ → List ℕ → List ℕ
more_groups zero bytes = []
more_groups (suc count) bytes = (58 ∷ group_text bytes) ++ more_groups count (drop 2 bytes)

-- eight groups, separated by colons (RFC 4291 section 2.2)
abbrev pub ipv6_text : List ℕ → List ℕ
ipv6_text bytes = group_text bytes ++ more_groups 7 (drop 2 bytes)

-- how many octets the item at the front of a value has
abbrev pub item_len : Item → List ℕ → ℕ
item_len Key bytes = 2
item_len Protocol bytes = 1 + get_or bytes 0 0
item_len Address4 bytes = 4
item_len Address6 bytes = 16

-- the item at the front of a value
abbrev pub front_item : Item → List ℕ → List ℕ
front_item Key bytes = key_name (key_at bytes)
front_item Protocol bytes = item_text (take (get_or bytes 0 0) (drop 1 bytes))
front_item Address4 bytes = ipv4_text bytes
front_item Address6 bytes = ipv6_text bytes

-- what precedes an item: nothing before the first, and a comma before any other
abbrev pub lead : Bool → List ℕ
lead true = []
lead false = 44 ∷ []

-- the items of a list, separated by commas, after `left` more octets of the one before
abbrev pub items_text : Item → Bool → ℕ → List ℕ → List ℕ
items_text kind is_first left [] = []
items_text kind is_first zero (c ∷ cs) =
    (lead is_first ++ front_item kind (c ∷ cs)) ++ items_text kind false (item_len kind (c ∷ cs) - 1) cs
items_text kind is_first (suc left) (c ∷ cs) = items_text kind is_first left cs

-- ---- parameters

-- the octets of the text of a value, before those of a word are escaped (RFC 9460 sections 7 and 8)
abbrev pub value_octets : ℕ → List ℕ → List ℕ
value_octets key value =
    if key == 0 then items_text Key true 0 value
    else if key == 1 then items_text Protocol true 0 value
    else if key == 3 then decimal (key_at value)
    else if key == 4 then items_text Address4 true 0 value
    else if key == 5 then encode_of standard value
    else if key == 6 then items_text Address6 true 0 value
    else value

-- `=` and a text, unless the value is empty
abbrev pub value_part : List ℕ → List ℕ → List ℕ
value_part value octets = if length value == 0 then [] else 61 ∷ word_text octets

-- a parameter: the name of its key, and its value unless that is empty
abbrev pub parameter_text : ℕ → List ℕ → List ℕ
parameter_text key value = key_name key ++ value_part value (value_octets key value)

-- the texts of parameters, after `left` more octets of the one before
abbrev pub parameter_texts : ℕ → List ℕ → List (List ℕ)
parameter_texts left [] = []
parameter_texts zero (c ∷ cs) =
    parameter_text (key_at (c ∷ cs)) (front_value (c ∷ cs)) ∷ parameter_texts (3 + len_at (c ∷ cs)) cs
parameter_texts (suc left) (c ∷ cs) = parameter_texts left cs

-- words, a blank before each
abbrev pub spaced_words : List (List ℕ) → List ℕ
spaced_words [] = []
spaced_words (word ∷ words) = (32 ∷ word) ++ spaced_words words
