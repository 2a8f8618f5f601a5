-- The value of a field at the front of bytes.
use Rattle.std.specs.Prelude.{ℕ, zero, suc, ◌+◌, ◌==◌, nat_le, nat_lt, if◌then◌else◌, Bool, true, false, List, [], ◌∷◌, length, take, drop, Option, Some, None, option_map, unwrap_or}
use Rattle.dns_fields.specs.bitmaps.Bitmap.{is_bitmap}
use Rattle.dns_fields.specs.service.Wire.{are_parameters}
use Rattle.dns_fields.specs.location.Wire.{is_location}
use Rattle.dns_formats.specs.Value.{is_tag}
use Rattle.dns_formats.specs.declared.field.Field.{Field}
use Rattle.dns_formats.specs.declared.field.Field.TheVariants as kind
use Rattle.dns_formats.specs.declared.field.Field.TheVariants.{Number8, Number16, Number32, Name, CharacterString, Tag, Text, Hex, Base64}

-- the number of bytes, if there are as many
abbrev pub at_least : ℕ → List ℕ → Option ℕ
at_least count bytes = if nat_le count (length bytes) then Some count else None

-- The length of the uncompressed name at the front of bytes, after `past` more bytes of the label before: labels of 1 to 63
-- bytes, each after its length, and the root's zero byte (RFC 1035 section 3.1).
abbrev pub name_end : ℕ → List ℕ → Option ℕ
name_end past [] = None
name_end zero (c ∷ cs) =
    if c == 0 then Some 1 else if nat_lt c 64 then option_map (λ n. 1 + n) (name_end c cs) else None
name_end (suc past) (c ∷ cs) = option_map (λ n. 1 + n) (name_end past cs)

-- a length of at most 255 bytes (RFC 1035 section 2.3.4)
abbrev pub short_name : Option ℕ → Option ℕ
short_name None = None
short_name (Some n) = if nat_le n 255 then Some n else None

-- the length of a string with the byte that counts it
abbrev pub counted_len : List ℕ → Option ℕ
counted_len [] = None
counted_len (n ∷ bytes) = if nat_le n (length bytes) then Some (1 + n) else None

-- the octets of a string, after the byte that counts them
abbrev pub counted_octets : List ℕ → List ℕ
counted_octets [] = []
counted_octets (n ∷ bytes) = take n bytes

-- the length of a string that is not empty, with the byte that counts it
abbrev pub some_counted_len : List ℕ → Option ℕ
some_counted_len bytes = if length (counted_octets bytes) == 0 then None else counted_len bytes

-- all bytes, if they are a bitmap of types
abbrev pub bitmap_len : List ℕ → Option ℕ
bitmap_len bytes = if is_bitmap 0 0 bytes then Some (length bytes) else None

-- all bytes, if they are parameters of a service binding
abbrev pub parameters_len : List ℕ → Option ℕ
parameters_len bytes = if are_parameters bytes 0 0 bytes then Some (length bytes) else None

-- all bytes, if they are a location
abbrev pub location_len : List ℕ → Option ℕ
location_len bytes = if is_location bytes then Some (length bytes) else None

-- all bytes, of which there is at least one
abbrev pub all_of : List ℕ → Option ℕ
all_of [] = None
all_of (byte ∷ bytes) = Some (length (byte ∷ bytes))

-- the length of the value of a field at the front of bytes, if there is one
abbrev pub value_len : Field → List ℕ → Option ℕ
value_len Number8 bytes = at_least 1 bytes
value_len Number16 bytes = at_least 2 bytes
value_len Number32 bytes = at_least 4 bytes
value_len Name bytes = short_name (name_end 0 bytes)
value_len CharacterString bytes = counted_len bytes
value_len Tag bytes = if is_tag (counted_octets bytes) then counted_len bytes else None
value_len kind.RecordType bytes = at_least 2 bytes
value_len kind.Time bytes = at_least 4 bytes
value_len kind.Salt bytes = counted_len bytes
value_len kind.Algorithm bytes = at_least 1 bytes
value_len kind.CertificateType bytes = at_least 2 bytes
value_len kind.Hash bytes = some_counted_len bytes
value_len kind.Types bytes = bitmap_len bytes
value_len kind.Parameters bytes = parameters_len bytes
value_len kind.Location bytes = location_len bytes
value_len Text bytes = Some (length bytes)
value_len Hex bytes = all_of bytes
value_len Base64 bytes = all_of bytes

-- the length of the value of a field that is there
abbrev pub value_size : Field → List ℕ → ℕ
value_size field bytes = unwrap_or (value_len field bytes) 0

-- whether bytes are the values of fields, one after another
abbrev pub fits : List Field → List ℕ → Bool
fits [] [] = true
fits [] (byte ∷ bytes) = false
fits (field ∷ fields) bytes = elim (value_len field bytes) [ None ↦ false | Some n ↦ fits fields (drop n bytes) ]
