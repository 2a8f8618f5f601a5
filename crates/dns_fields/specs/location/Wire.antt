-- Which bytes are a location (RFC 1876 section 2).
use Rattle.std.specs.Prelude.{ℕ, ◌+◌, ◌*◌, ◌==◌, ◌&&◌, nat_le, Bool, List, length, get_or}
use Rattle.dns_fields.specs.location.Angle.{greatest}
use Rattle.dns_fields.specs.location.Size.{is_size}
use Rattle.dns_fields.specs.declared.location.angle.Axis.{Axis}
use Rattle.dns_fields.specs.declared.location.angle.Axis.TheVariants.{Latitude, Longitude}

-- the number of 32 bits at a place
abbrev pub number_at : ℕ → List ℕ → ℕ
number_at place bytes =
    16777216 * get_or bytes place 0 + 65536 * get_or bytes (place + 1) 0 + 256 * get_or bytes (place + 2) 0
    + get_or bytes (place + 3) 0

-- whether a number is an angle of at most the greatest degrees from 2 ^ 31
abbrev pub is_angle : Axis → ℕ → Bool
is_angle axis value =
    nat_le value (2147483648 + 3600000 * greatest axis) && nat_le 2147483648 (value + 3600000 * greatest axis)

-- whether the octets of the size and of the precisions are those of sizes
abbrev pub are_sizes : List ℕ → Bool
are_sizes bytes = is_size (get_or bytes 1 0) && is_size (get_or bytes 2 0) && is_size (get_or bytes 3 0)

-- whether bytes are a location of version 0
abbrev pub is_location : List ℕ → Bool
is_location bytes =
    length bytes == 16 && get_or bytes 0 0 == 0 && are_sizes bytes
    && is_angle Latitude (number_at 4 bytes) && is_angle Longitude (number_at 8 bytes)
