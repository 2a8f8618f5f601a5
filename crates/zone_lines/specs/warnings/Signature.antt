-- The time of signatures (RFC 4034 section 3).
use Rattle.std.specs.Prelude.{◌==◌, ◌&&◌, ◌+◌, ◌-◌, ◌*◌, ◌%◌, ◌^◌, nat_lt, ℕ, Bool, false, List, [], ◌∷◌, drop}
use Rattle.dns_wire.specs.codes.RecordType.{type_number}
use Rattle.dns_data.specs.declared.rdata.RData.{RData}
use Rattle.dns_data.specs.declared.rdata.RData.TheVariants as of

-- whether a time is past, at another: by the arithmetic of serial numbers of 32 bits (RFC 1982, RFC 4034 section 3.1.5)
abbrev pub is_before : ℕ → ℕ → Bool
is_before time now = let age = (now + 2 ^ 32 - time) % 2 ^ 32 in nat_lt 0 age && nat_lt age (2 ^ 31)

-- whether the expiration in these bytes is past: four bytes, the highest first
abbrev pub is_past_in : ℕ → List ℕ → Bool
is_past_in now (a ∷ b ∷ c ∷ d ∷ rest) = is_before (a * 2 ^ 24 + b * 2 ^ 16 + c * 2 ^ 8 + d) now
is_past_in now other = false

-- the expiration of a signature follows eight bytes of its data
abbrev pub is_past : ℕ → List ℕ → Bool
is_past now bytes = is_past_in now (drop 8 bytes)

-- whether data is that of a signature, of the type 46
abbrev pub is_signature : RData → Bool
is_signature (of.Unknown code bytes) = type_number code == 46
is_signature other = false

-- whether data is that of a signature that has expired
abbrev pub has_expired : ℕ → RData → Bool
has_expired now (of.Unknown code bytes) = type_number code == 46 && is_past now bytes
has_expired now other = false

-- whether data is that of a DS record, of the type 43
abbrev pub is_signer : RData → Bool
is_signer (of.Unknown code bytes) = type_number code == 43
is_signer other = false
