-- A location, from its tokens (RFC 1876 section 3).
use Rattle.std.specs.Prelude.{ℕ, List, Result, Ok, Err}
use Rattle.dns_text.specs.Lexer.{Lexeme}
use Rattle.dns_fields.specs.location.Location.{location_bytes}
use Rattle.dns_fields.specs.declared.location.fault.LocationFault.{LocationFault}
use Rattle.dns_fields.specs.declared.location.fault.LocationFault.TheVariants as location
use Rattle.dns_formats.specs.declared.fault.TokenFault.{TokenFault}
use Rattle.dns_formats.specs.declared.fault.TokenFault.TheVariants.{Location, Memory}

-- the fault of a location, as one of its first token
abbrev pub location_fault : LocationFault → TokenFault
location_fault location.Memory = Memory
location_fault fault = Location fault

-- the outcome of a location, with the fault of its first token
abbrev pub of_location : Result (List ℕ) LocationFault → Result (List ℕ) TokenFault
of_location (Ok bytes) = Ok bytes
of_location (Err fault) = Err (location_fault fault)

-- the bytes of the location that tokens denote
abbrev pub token_bytes : List Lexeme → Result (List ℕ) TokenFault
token_bytes tokens = of_location (location_bytes tokens)
