-- The elements that the code decodes and the pieces that it writes for a name, and that decoding a name is unambiguous.
use Rattle.std.specs.Prelude.{◌≡◌, ℕ, ◌+◌, ◌<◌, ◌≤◌, ◌⊎◌, length, drop, slice_get, Option, None, Some, Ok, Err, List, [], ◌∷◌, ◌++◌, max}
use Rattle.dns_wire.specs.declared.error.DecodeError.{DecodeError}
use Rattle.dns_wire.specs.declared.error.DecodeError.TheVariants.{DomainNameTooLong}
use Rattle.dns_wire.specs.Name.{IsLabel}
use Rattle.dns_wire.specs.Encoder.{EncoderState}
use Rattle.dns_wire.specs.Encodable.{Piece, Plain}
use Rattle.dns_wire.specs.Writing.{labels_form, compressed_form, remember_labels}
use Rattle.std.proofs.Common.{true, sym, ◌∙◌}
use Rattle.dns_wire.specs.Reading.{ReadsName}
use Rattle.dns_wire.proofs.ReadingLaws.{reads_same}
use Rattle.dns_names.specs.Name.{DomainName}
use Rattle.dns_wire.specs.Element as wire

-- what ends a run of labels, as an element of the grammar: no target is the root's zero byte
abbrev pub element_of : Option ℕ → wire.Element
element_of None = wire.Closing
element_of (Some target) = wire.Pointer target

-- how many bytes it takes
abbrev pub element_len : Option ℕ → ℕ
element_len None = 1
element_len (Some target) = 2

-- a label from a place of the bytes up to an end
pub record LabelIs (bytes : List ℕ) (place end : ℕ) : Type 0 where
  pub label : List ℕ
  pub rest : List ℕ
  pub is : IsLabel label
  pub here : drop place bytes ≡ length label ∷ (label ++ rest)
  pub end_is : end ≡ place + (length label + 1)

-- labels one after another, from a place of the bytes up to an end
pub data Run (bytes : List ℕ) (place : ℕ) : List (List ℕ) → ℕ → Type 0 where
  no_label : Run bytes place [] place
  label_more : {labels : List (List ℕ)} {label : List ℕ} {at : ℕ} (rest : List ℕ) → Run bytes place labels at → IsLabel label
      → drop at bytes ≡ length label ∷ (label ++ rest) → Run bytes place (labels ++ label ∷ []) (at + (length label + 1))

-- so many labels, of so many bytes at most with their lengths
pub record RunIs (bytes : List ℕ) (place room end count : ℕ) : Type 0 where
  pub labels : List (List ℕ)
  pub run : Run bytes place labels end
  pub many : length labels ≡ count
  pub fits : length (labels_form labels) ≤ room

-- no label begins at the end
abbrev pub IsRunEnd : List ℕ → ℕ → Type 0
IsRunEnd bytes end = (code : ℕ) → slice_get bytes end ≡ Some code → (code ≡ 0) ⊎ (64 ≤ code)

-- after some labels there is a fault, or a label for which there is no room
pub record RunFails (bytes : List ℕ) (place room : ℕ) (error : DecodeError) : Type 0 where
  pub labels : List (List ℕ)
  pub end : ℕ
  pub run : Run bytes place labels end
  pub fits : length (labels_form labels) ≤ room
  pub cause : (wire.element_at bytes end ≡ Err error)
      ⊎ ((label : List ℕ) × (wire.element_at bytes end ≡ Ok (wire.Label label))
      × (room < length (labels_form labels) + (length label + 1)) × (error ≡ DomainNameTooLong))

-- labels, each preceded by its length (RFC 1035 section 3.1)
abbrev pub labels_pieces : List (List ℕ) → List Piece
labels_pieces labels = Plain (labels_form labels) ∷ []

-- the labels and the root's zero byte
abbrev pub whole_pieces : List (List ℕ) → List Piece
whole_pieces labels = labels_pieces labels ++ Plain (0 ∷ []) ∷ []

-- the state after a compressed name was written at the end
abbrev pub append_compressed : EncoderState → List (List ℕ) → EncoderState
append_compressed w labels = record w {
  bytes = w.bytes ++ compressed_form w.suffixes labels;
  offset = w.offset + length (compressed_form w.suffixes labels);
  suffixes = remember_labels w.suffixes w.offset labels;
}

-- how far the writing reaches: the labels are written before a pointer replaces them
abbrev pub compressed_reach : EncoderState → List (List ℕ) → ℕ
compressed_reach w labels = w.offset + max (length (labels_form labels)) (length (compressed_form w.suffixes labels))

pub one_name : (buffer : List ℕ) (place : ℕ) (a b : DomainName) (end end' : ℕ)
    → ReadsName buffer place a.labels end × (a.is_fqdn ≡ true) → ReadsName buffer place b.labels end' × (b.is_fqdn ≡ true)
    → (a ≡ b) × (end ≡ end')
one_name buffer place a b end end' s t =
    let same = reads_same s.0 t.0 in
    (λ i. record { is_fqdn = (s.1 ∙ sym t.1) i; labels = same.0 i }, same.1)
