-- Parameters from their texts (RFC 9460 sections 2.1, 7 and 8).
use Rattle.std.specs.Prelude.{ℕ, ◌==◌, nat_lt, if◌then◌else◌, false, List, [], ◌++◌, length, Option, Some, None, Result, Ok, Err}
use Rattle.std.specs.Int.{w16, to_be_bytes}
use Rattle.base64.specs.Engines.{standard}
use Rattle.base64.specs.GeneralPurpose.{decode_of}
use Rattle.base64.specs.declared.decode.DecodeError.{DecodeError}
use Rattle.dns_wire.specs.codes.Decimal.{decimal_up_to}
use Rattle.dns_fields.specs.service.Key.{is_numbered, key_of}
use Rattle.dns_fields.specs.service.Wire.{has_key, place}
use Rattle.dns_fields.specs.service.List.{inserted, list_bytes}
use Rattle.dns_fields.specs.declared.service.list.Item.TheVariants as items
use Rattle.dns_fields.specs.declared.service.fault.ServiceFault.{ServiceFault}
use Rattle.dns_fields.specs.declared.service.fault.ServiceFault.TheVariants.{UnknownKey, InvalidValue, Repeated}

-- a number of 16 bits
abbrev pub port_bytes : Option ℕ → Result (List ℕ) ServiceFault
port_bytes None = Err InvalidValue
port_bytes (Some number) = Ok (to_be_bytes w16 number)

-- bytes in base64 (RFC 4648 section 4)
abbrev pub base64_bytes : Result (List ℕ) DecodeError → Result (List ℕ) ServiceFault
base64_bytes (Ok bytes) = Ok bytes
base64_bytes (Err error) = Err InvalidValue

-- the bytes of the value of a key, from the octets of its text
abbrev pub value_bytes : ℕ → List ℕ → Result (List ℕ) ServiceFault
value_bytes key octets =
    if key == 0 then list_bytes items.Key [] [] false octets
    else if key == 1 then list_bytes items.Protocol [] [] false octets
    else if key == 3 then port_bytes (decimal_up_to 65535 octets)
    else if key == 4 then list_bytes items.Address4 [] [] false octets
    else if key == 5 then base64_bytes (decode_of standard octets)
    else if key == 6 then list_bytes items.Address6 [] [] false octets
    else Ok octets

-- The bytes of a value, by the name of its key: of the form of the key, or, after `key` and a number, the octets as they are
-- (RFC 9460 section 2.1).
abbrev pub named_bytes : List ℕ → ℕ → List ℕ → Result (List ℕ) ServiceFault
named_bytes name key octets = if is_numbered name then Ok octets else value_bytes key octets

-- a parameter: its key, the length of its value, and its value
abbrev pub form : ℕ → List ℕ → List ℕ
form key value = to_be_bytes w16 key ++ to_be_bytes w16 (length value) ++ value

-- parameters with one more, in its order
abbrev pub with_value : ℕ → List ℕ → Result (List ℕ) ServiceFault → Result (List ℕ) ServiceFault
with_value key bytes (Err fault) = Err fault
with_value key bytes (Ok value) =
    if nat_lt 65535 (length value) then Err InvalidValue
    else Ok (inserted (place key 0 bytes) (form key value) bytes)

-- parameters with one more, unless its key is unknown or there already
abbrev pub with_key : List ℕ → List ℕ → Option ℕ → List ℕ → Result (List ℕ) ServiceFault
with_key bytes name None octets = Err UnknownKey
with_key bytes name (Some key) octets =
    if has_key key 0 bytes then Err Repeated else with_value key bytes (named_bytes name key octets)

-- parameters with one more, by the name of its key and the octets of its value
abbrev pub with_parameter : List ℕ → List ℕ → List ℕ → Result (List ℕ) ServiceFault
with_parameter bytes name octets = with_key bytes name (key_of name) octets
