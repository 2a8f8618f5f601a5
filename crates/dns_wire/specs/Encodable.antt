-- What an encoder writes: a sequence of pieces, which are plain bytes and names.
--
-- The encoding of a piece depends on its position: the offset, how names are encoded, the remembered suffixes and the
-- number of names that were tried. It depends on no byte that was written before. Which pieces a value has can depend on
-- the position too: names in record data are written whole and in lower case in canonical form (RFC 4034 section 6.2).
use Rattle.std.specs.Prelude.{◌≡◌, ℕ, ◌+◌, ◌<◌, ◌≤◌, ◌↔◌, ◌⊎◌, nat_lt, Bool, false, ◌&&◌, if◌then◌else◌, List, [], ◌∷◌, ◌++◌, length, max, Result, Ok, Err, IsOk, OnOk, OnErr}
use Rattle.std.specs.List.{AllByRecursion}
use Rattle.dns_wire.specs.Encoder.{Suffix, EncoderState, IsAtEnd, Overwrites, CanRollBack, overwrite_at, max_compressed_names}
pub use Rattle.dns_wire.specs.Decodable.{BytesAt}
use Rattle.dns_wire.specs.Name.{AreLabels}
use Rattle.dns_wire.specs.Reading.{ReadsName}
use Rattle.dns_wire.specs.Writing.{compresses, compressed_form, remember_labels}
pub use Rattle.dns_wire.specs.Writing.{labels_form, whole_form, spelling, IsWholeEncoding}
use Rattle.dns_wire.specs.NameEncoding.{rdata_mode}
use Rattle.dns_wire.specs.declared.name_encoding.NameEncoding.{NameEncoding}
use Rattle.dns_wire.specs.declared.name_encoding.NameEncoding.TheVariants.{Compressed}
use Rattle.dns_wire.specs.declared.name_encoding.RDataEncoding.{RDataEncoding}
use Rattle.dns_wire.specs.declared.error.EncodeError.{EncodeError}
use Rattle.dns_wire.specs.declared.error.EncodeError.TheVariants.{MaxBufferSizeExceeded}

-- plain bytes; a name, encoded as the position asks; or a name that is never compressed, with its labels as they are
pub data Piece : Type 0 where
  Plain : List ℕ → Piece
  Domain : List (List ℕ) → Piece
  Whole : List (List ℕ) → Piece

-- all that the encoding of the next value depends on
pub record Position : Type 0 where
  pub place : ℕ
  pub encoding : NameEncoding
  pub canonical : Bool
  pub suffixes : List Suffix
  pub attempts : ℕ

-- the position of an encoder: its offset, and what decides how the next name is encoded
abbrev pub position_of : EncoderState → Position
position_of w = record {
  place = w.offset;
  encoding = w.encoding;
  canonical = w.canonical;
  suffixes = w.suffixes;
  attempts = w.attempts;
}

-- the start of an empty buffer, where names are compressed and record data does not have its canonical form
abbrev pub start_position : Position
start_position = record {
  place = 0;
  encoding = Compressed;
  canonical = false;
  suffixes = [];
  attempts = 0;
}

-- whether a name is compressed here: only in the compressing encoding, and only the first 120 names
abbrev pub is_compressed : Position → Bool
is_compressed s = compresses s.encoding && nat_lt s.attempts max_compressed_names

-- the encoding of a name
abbrev pub name_form : Position → List (List ℕ) → List ℕ
name_form s labels =
    if is_compressed s then compressed_form s.suffixes labels
    else whole_form (spelling s.encoding labels)

-- the encoding of a piece at a position
abbrev pub piece_form : Position → Piece → List ℕ
piece_form s (Plain bytes) = bytes
piece_form s (Domain labels) = name_form s labels
piece_form s (Whole labels) = whole_form labels

-- the suffixes that are remembered after a piece
abbrev pub piece_suffixes : Position → Piece → List Suffix
piece_suffixes s (Plain bytes) = s.suffixes
piece_suffixes s (Domain labels) =
    if is_compressed s then remember_labels s.suffixes s.place labels else s.suffixes
piece_suffixes s (Whole labels) = s.suffixes

-- how many names were tried
abbrev pub piece_attempts : Position → Piece → ℕ
piece_attempts s (Plain bytes) = s.attempts
piece_attempts s (Domain labels) = if is_compressed s then s.attempts + 1 else s.attempts
piece_attempts s (Whole labels) = s.attempts

-- the position after a piece
abbrev pub piece_next : Position → Piece → Position
piece_next s p = record s {
  place = s.place + length (piece_form s p);
  suffixes = piece_suffixes s p;
  attempts = piece_attempts s p;
}

-- The end of the furthest byte that is written for a piece: labels are written in full before a pointer replaces them.
abbrev pub piece_reach : Position → Piece → ℕ
piece_reach s (Plain bytes) = s.place + length bytes
piece_reach s (Domain labels) = s.place + max (length (labels_form labels)) (length (name_form s labels))
piece_reach s (Whole labels) = s.place + length (whole_form labels)

-- ---- names in record data

-- The piece of a name in record data, by the kind of the data and whether it has its canonical form: a name that is
-- encoded as the position asks, or one that is written whole, as its kind requires.
abbrev pub name_piece : RDataEncoding → Bool → List (List ℕ) → Piece
name_piece kind canonical labels =
    if compresses (rdata_mode kind canonical Compressed) then Domain labels
    else Whole (spelling (rdata_mode kind canonical Compressed) labels)

-- ---- sequences of pieces

-- the encoding of pieces
abbrev pub form : Position → List Piece → List ℕ
form s [] = []
form s (p ∷ ps) = piece_form s p ++ form (piece_next s p) ps

-- the position after pieces
abbrev pub after : Position → List Piece → Position
after s [] = s
after s (p ∷ ps) = after (piece_next s p) ps

-- the end of the furthest byte that is written for pieces, 0 if there are none
abbrev pub reach : Position → List Piece → ℕ
reach s [] = 0
reach s (p ∷ ps) = max (piece_reach s p) (reach (piece_next s p) ps)

-- how many names were tried when the first piece that reaches past the limit was refused
abbrev pub attempts_at_limit : ℕ → Position → List Piece → ℕ
attempts_at_limit limit s [] = s.attempts
attempts_at_limit limit s (p ∷ ps) =
    if nat_lt limit (piece_reach s p) then (piece_next s p).attempts
    else attempts_at_limit limit (piece_next s p) ps

-- the state after writing pieces at the end
abbrev pub append_pieces : EncoderState → List Piece → EncoderState
append_pieces w ps = record w {
  bytes = w.bytes ++ form (position_of w) ps;
  offset = (after (position_of w) ps).place;
  suffixes = (after (position_of w) ps).suffixes;
  attempts = (after (position_of w) ps).attempts;
}

-- Writing pieces at the end of the buffer: they stay within the limit and are appended, or they would pass it, or memory
-- runs out. A refused write can be rolled back.
pub record Emits (old : EncoderState) (pieces : List Piece)
    (result : Result (Unit {0}) EncodeError) (new : EncoderState) : Type 0 where
  pub ok : OnOk result (new ≡ append_pieces old pieces)
  pub room : OnOk result (reach (position_of old) pieces ≤ old.limit)
  pub full : result ≡ Err MaxBufferSizeExceeded → old.limit < reach (position_of old) pieces
  pub tries : result ≡ Err MaxBufferSizeExceeded
      → new.attempts ≡ attempts_at_limit old.limit (position_of old) pieces
  pub back : OnErr result (CanRollBack old new)

-- Writing bytes at the offset: they overwrite or extend the buffer; or they would pass the limit, or memory runs out, and
-- nothing changes. Memory is taken only to extend the buffer, and only for bytes within the limit. At the end of the
-- buffer this emits them as one piece.
pub record Puts (old : EncoderState) (bytes : List ℕ)
    (result : Result (Unit {0}) EncodeError) (new : EncoderState) : Type 0 where
  pub ok : OnOk result (new ≡ overwrite_at old bytes)
  pub room : OnOk result (old.offset + length bytes ≤ old.limit)
  pub full : (result ≡ Err MaxBufferSizeExceeded) ↔ (old.limit < old.offset + length bytes)
  pub decided : Overwrites old (length bytes) → IsOk result
  pub err : OnErr result (new ≡ old)
  pub at_end : IsAtEnd old → Emits old (Plain bytes ∷ []) result new

-- Writing a character string at the offset, a length byte and the bytes (RFC 1035 section 3.3): they overwrite or extend
-- the buffer; or they would pass the limit, and nothing changes; or memory runs out, and the length byte may remain.
-- Memory is taken only to extend the buffer. At the end of the buffer they are two pieces, and a refused write can be
-- rolled back.
pub record PutsCharacterString {E : Type 0} (too_large : E) (old : EncoderState) (bytes : List ℕ)
    (result : Result (Unit {0}) E) (new : EncoderState) : Type 0 where
  pub ok : OnOk result (new ≡ overwrite_at (overwrite_at old (length bytes ∷ [])) bytes)
  pub room : OnOk result (old.offset + 1 + length bytes ≤ old.limit)
  pub full : (result ≡ Err too_large) ↔ (old.limit < old.offset + 1 + length bytes)
  pub no_room : old.limit < old.offset + 1 + length bytes → new ≡ old
  pub decided : Overwrites old (1 + length bytes) → IsOk result
  pub err : OnErr result ((new ≡ old) ⊎ (new ≡ overwrite_at old (length bytes ∷ [])))
  pub appended : IsAtEnd old
      → OnOk result (new ≡ append_pieces old (Plain (length bytes ∷ []) ∷ Plain bytes ∷ []))
  pub back : IsAtEnd old → OnErr result (CanRollBack old new)

-- the outcome of a call, without its value
abbrev pub outcome : {X : Type 0} → Result X EncodeError → Result (Unit {0}) EncodeError
outcome (Ok x) = Ok tt
outcome (Err error) = Err error

-- ---- decoding pieces

-- the piece is found at a place, up to an end; a name with the spelling of the encoding
abbrev pub PieceAt : NameEncoding → List ℕ → ℕ → Piece → ℕ → Type 0
PieceAt encoding buffer place (Plain bytes) end = BytesAt buffer place bytes end
PieceAt encoding buffer place (Domain labels) end = ReadsName buffer place (spelling encoding labels) end
PieceAt encoding buffer place (Whole labels) end = ReadsName buffer place labels end

-- the pieces are found one after another
abbrev pub PiecesAt : NameEncoding → List ℕ → ℕ → List Piece → ℕ → Type 0
PiecesAt encoding buffer place [] end = place ≡ end
PiecesAt encoding buffer place (p ∷ ps) end =
    (middle : ℕ) × PieceAt encoding buffer place p middle × PiecesAt encoding buffer middle ps end

-- the labels of each name are those of a name
abbrev pub IsWritable : Piece → Type 0
IsWritable (Plain bytes) = Unit {0}
IsWritable (Domain labels) = AreLabels labels
IsWritable (Whole labels) = AreLabels labels

-- each piece is writable
abbrev pub AreWritable : List Piece → Type 0
AreWritable ps = AllByRecursion IsWritable ps

-- every remembered suffix begins before the offset
abbrev pub AllBehind : Position → Type 0
AllBehind s = AllByRecursion (λ x. x.start < s.place) s.suffixes
