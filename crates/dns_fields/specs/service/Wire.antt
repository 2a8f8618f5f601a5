-- Parameters as bytes (RFC 9460 section 2.2).
use Rattle.std.specs.Prelude.{ℕ, zero, suc, ◌+◌, ◌*◌, ◌%◌, ◌==◌, ◌&&◌, ◌||◌, nat_le, nat_lt, if◌then◌else◌, Bool, true, false, List, [], ◌∷◌, length, take, drop, get_or}

-- ---- the parameter at the front of bytes: a key and the length of its value, of two octets each, and the value

-- the key of the parameter at the front: its first two octets
abbrev pub key_at : List ℕ → ℕ
key_at bytes = 256 * get_or bytes 0 0 + get_or bytes 1 0

-- the length of its value in octets: the two octets after the key
abbrev pub len_at : List ℕ → ℕ
len_at bytes = 256 * get_or bytes 2 0 + get_or bytes 3 0

-- its value: that many octets after these four
abbrev pub front_value : List ℕ → List ℕ
front_value bytes = take (len_at bytes) (drop 4 bytes)

-- whether parameters have one with a key, after `left` more octets of the one before
abbrev pub has_key : ℕ → ℕ → List ℕ → Bool
has_key key zero [] = false
has_key key zero (octet ∷ rest) = key_at (octet ∷ rest) == key || has_key key (3 + len_at (octet ∷ rest)) rest
has_key key (suc left) [] = false
has_key key (suc left) (octet ∷ rest) = has_key key left rest

-- ---- values (RFC 9460 sections 7 and 8)

-- Keys that all parameters have, in ascending order from `least` on, each once.
abbrev pub are_mandatory : List ℕ → ℕ → List ℕ → Bool
are_mandatory all least [] = true
are_mandatory all least (a ∷ []) = false
are_mandatory all least (a ∷ b ∷ rest) =
    nat_le least (256 * a + b) && (has_key (256 * a + b) 0 all && are_mandatory all (256 * a + b + 1) rest)

-- identifiers of protocols, each after its length, which is not 0; `left` more octets belong to the one before
abbrev pub are_protocols : ℕ → List ℕ → Bool
are_protocols zero [] = true
are_protocols zero (len ∷ rest) = nat_lt 0 len && are_protocols len rest
are_protocols (suc left) [] = false
are_protocols (suc left) (octet ∷ rest) = are_protocols left rest

-- Whether bytes are a value of a key, beside all parameters: `mandatory` names other keys, each of which is there,
-- `no-default-alpn` needs `alpn`, and lists have at least one item.
abbrev pub is_value : List ℕ → ℕ → List ℕ → Bool
is_value all key value =
    if key == 0 then nat_lt 0 (length value) && are_mandatory all 1 value
    else if key == 1 then nat_lt 0 (length value) && are_protocols 0 value
    else if key == 2 then length value == 0 && has_key 1 0 all
    else if key == 3 then length value == 2
    else if key == 4 then nat_lt 0 (length value) && length value % 4 == 0
    else if key == 5 then nat_lt 0 (length value)
    else if key == 6 then nat_lt 0 (length value) && length value % 16 == 0
    else true

-- ---- all parameters

-- whether bytes begin with a parameter that has a key from `least` on and a value of the key
abbrev pub is_front : List ℕ → ℕ → List ℕ → Bool
is_front all least bytes =
    nat_le least (key_at bytes) && (nat_le (4 + len_at bytes) (length bytes) && is_value all (key_at bytes) (front_value bytes))

-- Parameters with keys from `least` on, in ascending order, each once, after `left` more octets of the one before.
abbrev pub are_parameters : List ℕ → ℕ → ℕ → List ℕ → Bool
are_parameters all least zero [] = true
are_parameters all least zero (octet ∷ rest) =
    is_front all least (octet ∷ rest)
    && are_parameters all (key_at (octet ∷ rest) + 1) (3 + len_at (octet ∷ rest)) rest
are_parameters all least (suc left) [] = false
are_parameters all least (suc left) (octet ∷ rest) = are_parameters all least left rest

-- How many octets the parameters before a key have, after `left` more octets of the one before.
abbrev pub place : ℕ → ℕ → List ℕ → ℕ
place key zero [] = 0
place key zero (octet ∷ rest) =
    if nat_lt (key_at (octet ∷ rest)) key then 1 + place key (3 + len_at (octet ∷ rest)) rest else 0
place key (suc left) [] = 0
place key (suc left) (octet ∷ rest) = 1 + place key left rest
