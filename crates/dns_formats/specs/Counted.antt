-- Octets after their number.
use Rattle.std.specs.Prelude.{ℕ, nat_lt, if◌then◌else◌, List, ◌∷◌, length, Result, Ok, Err}
use Rattle.dns_formats.specs.declared.fault.TokenFault.{TokenFault}
use Rattle.dns_formats.specs.declared.fault.TokenFault.TheVariants.{StringTooLong}

-- a string of at most 255 bytes, after its length (RFC 1035 section 3.3)
abbrev pub counted : Result (List ℕ) TokenFault → Result (List ℕ) TokenFault
counted (Ok octets) = if nat_lt 255 (length octets) then Err StringTooLong else Ok (length octets ∷ octets)
counted (Err fault) = Err fault
