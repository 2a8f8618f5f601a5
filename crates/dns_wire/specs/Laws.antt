-- Sequences of calls of an encoder: writes at the end, refused ones that are rolled back, setting the offset back, and
-- filling places.
use Rattle.std.specs.Prelude.{◌≡◌, ℕ, ◌+◌, ◌<◌, ◌≤◌, ◌⊎◌, Bool, if◌then◌else◌, List, [], ◌∷◌, ◌++◌, length, drop, Option, Some, None}
use Rattle.std.specs.List.{AllByRecursion}
use Rattle.std.specs.Option.{option_map_or}
use Rattle.dns_wire.specs.declared.name_encoding.NameEncoding.{NameEncoding}
use Rattle.dns_wire.specs.Encoder.{Suffix, EncoderState, place_of, put_at, trim_to_offset, CanRollBack}
use Rattle.dns_wire.specs.Encodable.{Piece, Plain, Domain, Whole, Position, position_of, is_compressed, piece_form, append_pieces, PieceAt, AreWritable, labels_form}
use Rattle.dns_wire.specs.Writing.{IsPointerTarget}

-- ---- the parts of a buffer

-- A part of the buffer: a piece, with the encoding of names and the number of attempts when it was written; or lost
-- bytes, of which nothing is promised, with the suffixes that are remembered after them.
pub data Part : Type 0 where
  Surviving : NameEncoding → ℕ → Piece → Part
  Lost : List ℕ → List Suffix → Part

-- the state in which a piece is written
abbrev pub begin_piece : EncoderState → NameEncoding → ℕ → EncoderState
begin_piece w encoding attempts = record w { encoding = encoding; attempts = attempts }

-- the state after lost bytes
abbrev pub append_lost : EncoderState → List ℕ → List Suffix → EncoderState
append_lost w bytes suffixes = record w {
  bytes = w.bytes ++ bytes;
  offset = w.offset + length bytes;
  suffixes = suffixes;
}

-- the state after parts, the latest of which comes first
abbrev pub state_after : EncoderState → List Part → EncoderState
state_after old [] = old
state_after old (Surviving encoding attempts piece ∷ earlier) =
    append_pieces (begin_piece (state_after old earlier) encoding attempts) (piece ∷ [])
state_after old (Lost bytes suffixes ∷ earlier) = append_lost (state_after old earlier) bytes suffixes

-- the place is among lost bytes
abbrev pub IsLost : EncoderState → List Part → ℕ → Type 0
IsLost old [] place = ⊥
IsLost old (Surviving encoding attempts piece ∷ earlier) place = IsLost old earlier place
IsLost old (Lost bytes suffixes ∷ earlier) place =
    (((state_after old earlier).offset ≤ place)
    × (place < (state_after old earlier).offset + length bytes)) ⊎ IsLost old earlier place

-- ---- targets of pointers

-- the target of the pointer in a compressed name, if it has one
abbrev pub pointer_target : List Suffix → List (List ℕ) → Option ℕ
pointer_target suffixes [] = None
pointer_target suffixes (label ∷ labels) =
    option_map_or Some (place_of suffixes (labels_form (label ∷ labels))) (pointer_target suffixes labels)

-- the target of the pointer that a piece is written with, if there is one
abbrev pub piece_target : Position → Piece → Option ℕ
piece_target s (Plain bytes) = None
piece_target s (Domain labels) = if is_compressed s then pointer_target s.suffixes labels else None
piece_target s (Whole labels) = None

-- the target, if there is one, is not lost
abbrev pub TargetSurvives : (ℕ → Type 0) → Option ℕ → Type 0
TargetSurvives lost found = (target : ℕ) → found ≡ Some target → lost target → ⊥

-- nor is that of any of these pieces, written one after another
abbrev pub TargetsSurvive : (ℕ → Type 0) → EncoderState → List Piece → Type 0
TargetsSurvive lost w [] = Unit {0}
TargetsSurvive lost w (piece ∷ pieces) =
    TargetSurvives lost (piece_target (position_of w) piece)
    × TargetsSurvive lost (append_pieces w (piece ∷ [])) pieces

-- ---- calls

-- the parts, followed by pieces
abbrev pub push_pieces : EncoderState → List Piece → List Part → List Part
push_pieces w [] parts = parts
push_pieces w (piece ∷ pieces) parts =
    push_pieces (append_pieces w (piece ∷ [])) pieces (Surviving w.encoding w.attempts piece ∷ parts)

-- Calls old parts new: calls lead from one state to another, and the buffer then consists of these parts, the latest of
-- which comes first.
--
-- No suffix is stored by hand, and an offset that is set back is followed by a trim before the next write. A piece that
-- is truncated in part, or that refers to what was truncated, is lost.
pub data Calls (old : EncoderState) : List Part → EncoderState → Type 0 where
  no_call : Calls old [] old
  call_write : {parts : List Part} {w new : EncoderState} (pieces : List Piece)
      → Calls old parts w → new ≡ append_pieces w pieces → AreWritable pieces
      → TargetsSurvive (IsLost old parts) w pieces
      → Calls old (push_pieces w pieces parts) new
  call_write_lost : {parts : List Part} {w new : EncoderState} (piece : Piece)
      → Calls old parts w → new ≡ append_pieces w (piece ∷ [])
      → Calls old (Lost (piece_form (position_of w) piece) new.suffixes ∷ parts) new
  call_roll_back : {parts : List Part} {w refused new : EncoderState}
      → Calls old parts w → CanRollBack w refused
      → new ≡ trim_to_offset (record refused { offset = w.offset })
      → Calls old parts new
  call_go_back : {w new : EncoderState} (place : ℕ) (later earlier : List Part)
      → Calls old (later ++ earlier) w
      → (state_after old earlier).offset ≤ place → place ≤ w.offset
      → new ≡ trim_to_offset (record w { offset = place })
      → Calls old (Lost (drop (state_after old earlier).offset new.bytes) new.suffixes ∷ earlier) new
  call_fill : {w new : EncoderState} (later : List Part) (encoding : NameEncoding) (attempts : ℕ)
      (zeros bytes : List ℕ) (earlier : List Part)
      → Calls old (later ++ Surviving encoding attempts (Plain zeros) ∷ earlier) w
      → length zeros ≡ length bytes
      → new ≡ record w { bytes = put_at (state_after old earlier).offset bytes w.bytes }
      → Calls old (later ++ Surviving encoding attempts (Plain bytes) ∷ earlier) new
  call_set_mode : {parts : List Part} {w new : EncoderState}
      (encoding : NameEncoding) (canonical : Bool) (limit attempts : ℕ)
      → Calls old parts w
      → new ≡ record w {
        encoding = encoding;
        canonical = canonical;
        limit = limit;
        attempts = attempts;
      }
      → Calls old parts new

-- each surviving piece decodes at its place
abbrev pub SurvivorsDecode : EncoderState → List Part → List ℕ → Type 0
SurvivorsDecode old [] bytes = Unit {0}
SurvivorsDecode old (Surviving encoding attempts piece ∷ earlier) bytes =
    PieceAt encoding bytes (state_after old earlier).offset piece
    (state_after old (Surviving encoding attempts piece ∷ earlier)).offset
    × SurvivorsDecode old earlier bytes
SurvivorsDecode old (Lost lost suffixes ∷ earlier) bytes = SurvivorsDecode old earlier bytes

-- each remembered suffix that is not lost can be the target of a pointer
abbrev pub ArePointerTargetsUnlessLost : (ℕ → Type 0) → List ℕ → List Suffix → Type 0
ArePointerTargetsUnlessLost lost buffer suffixes =
    AllByRecursion (λ s. lost s.start ⊎ IsPointerTarget buffer s) suffixes
