-- What is written for a record after its owner: type, class, TTL, and the length and encoding of its data (RFC 1035 section
-- 4.1.3).
use Rattle.std.specs.Prelude.{◌++◌, List, [], ◌∷◌, ℕ, length}
use Rattle.std.specs.Int.{w16, w32, to_be_bytes}
use Rattle.dns_wire.specs.Encodable.{Piece, Plain, Position, form, after}
use Rattle.dns_wire.specs.codes.RecordType.{type_number}
use Rattle.dns_wire.specs.declared.codes.record_type.RecordType.{RecordType}
use Rattle.dns_wire.specs.codes.DNSClass.{class_number}
use Rattle.dns_wire.specs.declared.codes.dns_class.DNSClass.{DNSClass}

-- type, class and TTL (RFC 1035 section 4.1.3)
abbrev pub fixed_pieces : RecordType → DNSClass → ℕ → List Piece
fixed_pieces kind class ttl =
    Plain (to_be_bytes w16 (type_number kind))
    ∷ Plain (to_be_bytes w16 (class_number class))
    ∷ Plain (to_be_bytes w32 ttl)
    ∷ []

-- where the data begins, after two bytes for its length
abbrev pub data_position : Position → RecordType → DNSClass → ℕ → Position
data_position s kind class ttl = after s (fixed_pieces kind class ttl ++ Plain (0 ∷ 0 ∷ []) ∷ [])

-- the data are what is written for them at their position
abbrev pub len_of : Position → List Piece → ℕ
len_of s pieces = length (form s pieces)

-- type, class, TTL, the length of the data, and the data, whose encoding may depend on its position
abbrev pub pieces_behind_owner : Position → RecordType → DNSClass → ℕ → (Position → List Piece) → List Piece
pieces_behind_owner s kind class ttl rdata =
    fixed_pieces kind class ttl
    ++ Plain (to_be_bytes w16 (len_of (data_position s kind class ttl) (rdata (data_position s kind class ttl))))
    ∷ rdata (data_position s kind class ttl)
