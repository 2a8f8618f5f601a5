-- What precedes the data of a record: owner, type, class, TTL, and the length of the data (RFC 1035 section 4.1.3).
use Rattle.std.specs.Prelude.{◌≡◌, ◌^◌, ◌<◌, true, List, [], ◌∷◌, ℕ, length, drop, max}
use Rattle.std.specs.Int.{w16, w32, to_be_bytes}
use Rattle.dns_wire.specs.codes.RecordType.{type_number, type_of}
use Rattle.dns_wire.specs.codes.DNSClass.{class_of}
use Rattle.dns_wire.specs.declared.codes.record_type.RecordType.{RecordType}
use Rattle.dns_wire.specs.declared.codes.record_type.RecordType.TheVariants as types
use Rattle.dns_wire.specs.declared.codes.dns_class.DNSClass.{DNSClass}
use Rattle.dns_wire.specs.declared.codes.dns_class.DNSClass.TheVariants as classes
use Rattle.dns_wire.specs.Reading.{ReadsName, RefusesName}
use Rattle.dns_wire.specs.declared.error.DecodeError.{DecodeError}
use Rattle.dns_wire.specs.declared.error.DecodeError.TheVariants.{InsufficientBytes}
use Rattle.dns_wire.specs.Encodable.{Piece, Plain, Domain, PiecesAt}
use Rattle.dns_wire.specs.declared.name_encoding.NameEncoding.TheVariants.{Uncompressed}
use Rattle.dns_records.specs.declared.record_head.RecordHead.{RecordHead}

-- The class that a number stands for in a record of a type. In an OPT record it is a payload size, and less than 512 means
-- 512 (RFC 6891 sections 6.1.2 and 6.2.3).
abbrev pub class_for : RecordType → ℕ → DNSClass
class_for types.OPT number = classes.OPT (max number 512)
class_for other number = class_of number

-- the encoding of a head: owner, type, class, TTL and length, with the class as a number
abbrev pub head_form : RecordHead → ℕ → List Piece
head_form h class =
    Domain h.name.labels
    ∷ Plain (to_be_bytes w16 (type_number h.record_type))
    ∷ Plain (to_be_bytes w16 class)
    ∷ Plain (to_be_bytes w32 h.ttl)
    ∷ Plain (to_be_bytes w16 h.len)
    ∷ []

-- A fully qualified owner, and a type, class, TTL and length that fit their bytes. The class is what its number stands for.
pub record ReadsHead (bytes : List ℕ) (place : ℕ) (h : RecordHead) (end : ℕ) : Type 0 where
  pub fqdn : h.name.is_fqdn ≡ true
  pub type_fits : type_number h.record_type < 2 ^ 16
  pub type_named : type_of (type_number h.record_type) ≡ h.record_type
  pub class : ℕ
  pub class_fits : class < 2 ^ 16
  pub class_named : h.dns_class ≡ class_for h.record_type class
  pub ttl_fits : h.ttl < 2 ^ 32
  pub len_fits : h.len < 2 ^ 16
  pub there : PiecesAt Uncompressed bytes place (head_form h class) end

-- No head can be decoded: its owner is refused, or fewer bytes follow than type, class, TTL and length take.
pub data RefusesHead (bytes : List ℕ) (place : ℕ) : DecodeError → Type 0 where
  bad_owner : {error : DecodeError} → RefusesName bytes place error → RefusesHead bytes place error
  short_head : {labels : List (List ℕ)} {name_end : ℕ} → ReadsName bytes place labels name_end
      → length (drop name_end bytes) < 10 → RefusesHead bytes place InsufficientBytes
