-- The lengths of records without compression (RFC 1035 section 4.1.3).
use Rattle.std.specs.Prelude.{ℕ, length}
use Rattle.dns_wire.specs.Encodable.{form}
use Rattle.dns_records.specs.Record.{Record, record_pieces}
use Rattle.dns_messages.specs.Cut.{uncompressed_position}

-- the length of an encoded record whose names are not compressed
abbrev pub record_len : Record → ℕ
record_len r = length (form uncompressed_position (record_pieces uncompressed_position r))
