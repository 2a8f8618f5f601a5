-- Written data decodes.
use Rattle.std.proofs.Common.{◌≡◌, ◌≢◌, ℕ, ◌+◌, ◌-◌, ◌<◌, ◌^◌, false, List, refl, sym, subst, arith}
use Rattle.dns_wire.specs.Encoder.{EncoderState, IsAtEnd}
use Rattle.dns_wire.specs.Writing.{ArePointerTargets}
use Rattle.dns_wire.specs.Encodable.{Piece, position_of, append_pieces, PiecesAt, AreWritable}
use Rattle.dns_wire.specs.declared.name_encoding.NameEncoding.{NameEncoding}
use Rattle.dns_wire.specs.declared.name_encoding.NameEncoding.TheVariants.{Compressed, Uncompressed, UncompressedLowercase}
use Rattle.dns_wire.proofs.PieceLaws.{after-place, pieces_decode}
use Rattle.dns_wire.proofs.SectionLaws.{pieces_at-uncompressed}
use Rattle.dns_data.specs.declared.rdata.RData.{RData}
use Rattle.dns_data.specs.rdata.{data_type, data_pieces, whole_len, IsSoundData, ReadsData}
use Rattle.dns_data.proofs.LengthLaws.{form-most, form-whole}

keeps_case : (encoding : NameEncoding) (buffer : List ℕ) (place end : ℕ) (ps : List Piece) → encoding ≢ UncompressedLowercase → PiecesAt encoding buffer place ps end → PiecesAt Uncompressed buffer place ps end
keeps_case Compressed buffer place end ps keeps h = pieces_at-uncompressed buffer place end ps h
keeps_case Uncompressed buffer place end ps keeps h = h
keeps_case UncompressedLowercase buffer place end ps keeps h = absurd (keeps refl)

pub written_len : (w : EncoderState) (d : RData) → whole_len d < 2 ^ 16 → (append_pieces w (data_pieces false d)).offset - w.offset < 2 ^ 16
written_len w d fits =
    omega (arith, fits, after-place (position_of w) (data_pieces false d), form-most (position_of w) (data_pieces false d), form-whole (data_pieces false d))

pub written_decodes : (w : EncoderState) (d : RData) → IsAtEnd w → ArePointerTargets w.bytes w.suffixes → w.encoding ≢ UncompressedLowercase → IsSoundData d → AreWritable (data_pieces false d)
    → ReadsData (append_pieces w (data_pieces false d)).bytes w.offset (data_type d) ((append_pieces w (data_pieces false d)).offset - w.offset) d
written_decodes w d end targets keeps sound are =
    let ps : List Piece = data_pieces false d in
    let new : EncoderState = append_pieces w ps in
    let there = keeps_case w.encoding new.bytes w.offset new.offset ps keeps (pieces_decode w.bytes (position_of w) ps end targets are).0 in
    let place : new.offset ≡ w.offset + (new.offset - w.offset) = omega (arith, after-place (position_of w) ps) in
    record {
      of_type = sym sound.type_named;
      sound = sound;
      there = subst (λ (n : ℕ). PiecesAt Uncompressed new.bytes w.offset ps n) place there;
    }
