-- The keys of parameters (RFC 9460 sections 2.1 and 14.3.2).
use Rattle.std.specs.Prelude.{ℕ, ◌==◌, ◌&&◌, not, nat_lt, if◌then◌else◌, Bool, List, [], ◌∷◌, length, take, drop, get_or, Option, Some, None, map, codes}
use Rattle.std.specs.Str.{bytes_eq}
use Rattle.dns_wire.specs.codes.Decimal.{decimal_up_to}
use Rattle.dns_fields.specs.declared.service.key.TheConstants.{KEYS}

-- the key with a name, in a table
abbrev pub key_among : List (List ℕ × ℕ) → List ℕ → Option ℕ
key_among [] text = None
key_among (line ∷ lines) text = if bytes_eq text line.0 then Some line.1 else key_among lines text

-- the table of the names of keys, which the code has
abbrev pub keys : List (List ℕ × ℕ)
keys = map (λ line. (line.0.now, line.1)) KEYS.now

-- whether a number has a zero before its first digit
abbrev pub has_leading_zero : List ℕ → Bool
has_leading_zero digits = nat_lt 1 (length digits) && get_or digits 0 0 == 48

-- whether a text begins with `key`, as no name does
abbrev pub is_numbered : List ℕ → Bool
is_numbered text = bytes_eq (take 3 text) (codes "key")

-- `key` and a decimal number of 16 bits without leading zeros
abbrev pub numbered_key : List ℕ → Option ℕ
numbered_key text =
    if is_numbered text && not (has_leading_zero (drop 3 text))
    then decimal_up_to 65535 (drop 3 text) else None

-- the first of two, if there is one
abbrev pub or_numbered : Option ℕ → List ℕ → Option ℕ
or_numbered None text = numbered_key text
or_numbered (Some key) text = Some key

-- the key that a text names: by its name, in lower case, or by `key` and its number
abbrev pub key_of : List ℕ → Option ℕ
key_of text = or_numbered (key_among keys text) text
