-- The bytes that wait to be written on a connection.
use Rattle.std.specs.Prelude.{nat_lt, if◌then◌else◌, List, [], ℕ, Option, Some, None, length, take}
use Rattle.dns_message_bytes.specs.frames.Frame.{frame}

-- bytes, or as many of the first ones as are wanted
abbrev pub front : Option ℕ → List ℕ → List ℕ
front None bytes = bytes
front (Some count) bytes = take count bytes

-- what a reply adds: its frame, or the front of it, and nothing if it is too long for a frame (RFC 1035 section 4.2.2)
abbrev pub added : Option ℕ → List ℕ → List ℕ
added most reply = if nat_lt 65535 (length reply) then [] else front most (frame reply)
