-- Lists in the text of one value (RFC 9460 appendix A.1).
use Rattle.std.specs.Prelude.{◌≡◌, ◌≢◌, ℕ, ◌+◌, ◌*◌, ◌==◌, ◌&&◌, ◌||◌, nat_lt, if◌then◌else◌, Bool, true, false, List, [], ◌∷◌, ◌++◌, length, take, drop, Option, Some, None, Result, Ok, Err, MatchResult}
use Rattle.std.specs.Int.{w16, to_be_bytes}
use Rattle.dns_fields.specs.service.Key.{key_of}
use Rattle.dns_fields.specs.service.Address.{ipv4_bytes, ipv6_bytes}
use Rattle.dns_fields.specs.declared.service.list.Item.{Item}
use Rattle.dns_fields.specs.declared.service.list.Item.TheVariants.{Key, Protocol, Address4, Address6}
use Rattle.dns_fields.specs.declared.service.fault.ServiceFault.{ServiceFault}
use Rattle.dns_fields.specs.declared.service.fault.ServiceFault.TheVariants.{UnknownKey, InvalidEscape, InvalidValue}

-- The call leaves the bytes that are specified, or returns the fault that is, unless it runs out of memory.
abbrev pub Leaves : {X E : Type 0} → E → Result (List ℕ) E → Result X E → List ℕ → Type 0
Leaves memory spec result new = MatchResult result (λ _. spec ≡ Ok new) (λ fault. fault ≢ memory → spec ≡ Err fault)

-- how many octets the keys before a key have
abbrev pub key_place : ℕ → List ℕ → ℕ
key_place key [] = 0
key_place key (a ∷ []) = 0
key_place key (a ∷ b ∷ rest) = if nat_lt (256 * a + b) key then 2 + key_place key rest else 0

-- bytes with more at a place
abbrev pub inserted : ℕ → List ℕ → List ℕ → List ℕ
inserted place more bytes = take place bytes ++ more ++ drop place bytes

-- keys in ascending order, with one more
abbrev pub with_key : List ℕ → Option ℕ → Result (List ℕ) ServiceFault
with_key bytes None = Err UnknownKey
with_key bytes (Some key) = Ok (inserted (key_place key bytes) (to_be_bytes w16 key) bytes)

-- bytes with those of an address after them
abbrev pub with_address : List ℕ → Option (List ℕ) → Result (List ℕ) ServiceFault
with_address bytes None = Err InvalidValue
with_address bytes (Some address) = Ok (bytes ++ address)

-- The bytes of a list with one more item: a key in its order, an identifier of 1 to 255 octets after its length, or an
-- address.
abbrev pub with_item : Item → List ℕ → List ℕ → Result (List ℕ) ServiceFault
with_item Key bytes item = with_key bytes (key_of item)
with_item Protocol bytes item =
    if nat_lt 0 (length item) && nat_lt (length item) 256 then Ok (bytes ++ length item ∷ item) else Err InvalidValue
with_item Address4 bytes item = with_address bytes (ipv4_bytes item)
with_item Address6 bytes item = with_address bytes (ipv6_bytes item)

-- The bytes of a list, from `bytes` of the items before. A comma separates items, and a backslash makes the comma or the
-- backslash after it part of an item, which begins with `item`.
abbrev pub list_bytes : Item → List ℕ → List ℕ → Bool → List ℕ → Result (List ℕ) ServiceFault
list_bytes kind bytes item false [] = with_item kind bytes item
list_bytes kind bytes item false (c ∷ cs) =
    if c == 44 then elim (with_item kind bytes item) [ Ok more ↦ list_bytes kind more [] false cs | Err fault ↦ Err fault ]
    else if c == 92 then list_bytes kind bytes item true cs
    else list_bytes kind bytes (item ++ c ∷ []) false cs
list_bytes kind bytes item true [] = Err InvalidEscape
list_bytes kind bytes item true (c ∷ cs) =
    if c == 44 || c == 92 then list_bytes kind bytes (item ++ c ∷ []) false cs else Err InvalidEscape
