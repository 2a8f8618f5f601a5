-- What contracts see of a `BinEncoder`.
use Rattle.std.specs.Prelude.{◌≡◌, ℕ, ◌+◌, ◌≤◌, Bool, ◌&&◌, if◌then◌else◌, List, [], ◌∷◌, ◌++◌, length, take, drop, nat_lt, is_none}
use Rattle.std.specs.Borrow.{GName}
use Rattle.dns_wire.specs.declared.encoder.BinEncoder.{BinEncoder}
pub use Rattle.dns_wire.specs.Suffixes.{Suffix, suffixes_before, place_of}
use Rattle.dns_wire.specs.declared.name_encoding.NameEncoding.{NameEncoding}

-- ---- limits

-- the maximum size of a message (RFC 1035 section 4.2.2: a length of 16 bits)
abbrev pub max_message_len : ℕ
max_message_len = 65535

-- how many suffixes an encoder remembers
abbrev pub max_suffixes : ℕ
max_suffixes = 64

-- Suffixes are remembered below this offset, the greatest that a pointer's 14 bits can hold (RFC 1035 section 4.1.4).
abbrev pub suffix_offset_limit : ℕ
suffix_offset_limit = 16383

-- how many names an encoder tries to compress
abbrev pub max_compressed_names : ℕ
max_compressed_names = 120

-- the maximum length of a character string (RFC 1035 section 3.3)
abbrev pub max_character_string_len : ℕ
max_character_string_len = 255

-- ---- state

-- The state of an encoder: the buffer, the offset of the next byte, the maximum size of the buffer, how names are
-- encoded, whether record data has its canonical form, the remembered suffixes in order, how many names it has tried to
-- compress, and the identity of the borrowed vector.
pub record EncoderState : Type 0 where
  pub bytes : List ℕ
  pub offset : ℕ
  pub limit : ℕ
  pub encoding : NameEncoding
  pub canonical : Bool
  pub suffixes : List Suffix
  pub attempts : ℕ
  pub lender : GName

-- the state of an encoder, from its fields
abbrev pub state_of : BinEncoder → EncoderState
state_of e = record {
  bytes = e.buffer.now.items;
  offset = e.offset;
  limit = e.max_size;
  encoding = e.name_encoding;
  canonical = e.canonical_form;
  suffixes = e.suffixes;
  attempts = e.attempts;
  lender = e.buffer.ghost_name;
}

-- the next byte extends the buffer
abbrev pub IsAtEnd : EncoderState → Type 0
IsAtEnd w = w.offset ≡ length w.bytes

-- so many bytes at the offset are within the buffer and its maximum size: writing them takes no memory
abbrev pub Overwrites : EncoderState → ℕ → Type 0
Overwrites w len = (w.offset + len ≤ length w.bytes) × (w.offset + len ≤ w.limit)

-- ---- writing bytes

-- the buffer, overwritten from a place on, and extended where the bytes pass its end
abbrev pub put_at : ℕ → List ℕ → List ℕ → List ℕ
put_at place more bytes = take place bytes ++ (more ++ drop (place + length more) bytes)

-- the state after writing bytes at the offset
abbrev pub overwrite_at : EncoderState → List ℕ → EncoderState
overwrite_at w more = record w { bytes = put_at w.offset more w.bytes; offset = w.offset + length more }

-- ---- remembered suffixes

-- The suffixes after remembering bytes at an offset. Nothing changes if the bytes are remembered already, if they start
-- at 0x3FFF or later, or if the list is full.
abbrev pub remember : List Suffix → ℕ → List ℕ → List Suffix
remember suffixes start bytes =
    if nat_lt start suffix_offset_limit
    && (nat_lt (length suffixes) max_suffixes && is_none (place_of suffixes bytes))
    then suffixes ++ record { start = start; bytes = bytes } ∷ []
    else suffixes

-- ---- rolling back

-- the state after truncating the buffer to the offset, and forgetting the suffixes from there on
abbrev pub trim_to_offset : EncoderState → EncoderState
trim_to_offset w = record w {
  bytes = take w.offset w.bytes;
  suffixes = suffixes_before w.offset w.suffixes;
}

-- A refused write can be rolled back: returning to the old offset and trimming leaves the bytes and suffixes that were
-- before it. The names that were tried still count.
pub record CanRollBack (old new : EncoderState) : Type 0 where
  pub bytes : take old.offset new.bytes ≡ take old.offset old.bytes
  pub within : old.offset ≤ length new.bytes
  pub suffixes : suffixes_before old.offset new.suffixes ≡ suffixes_before old.offset old.suffixes
  pub attempts : old.attempts ≤ new.attempts
  -- nothing else changes
  pub same : new ≡ record old {
    bytes = new.bytes;
    offset = new.offset;
    suffixes = new.suffixes;
    attempts = new.attempts;
  }
