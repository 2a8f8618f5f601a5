-- How the parts of a message are written, one after another.
use Rattle.std.specs.Prelude.{◌%◌, ◌==◌, ◌||◌, if◌then◌else◌, Bool, List, ℕ, length, Option, option_map}
use Rattle.std.specs.Borrow.{Bor}
use Rattle.dns_wire.specs.Encoder.{EncoderState}
use Rattle.dns_wire.specs.Encodable.{Piece, Position, AreWritable}
use Rattle.dns_wire.specs.Items.{fitting_items, fitting_pieces, append_fitting}
use Rattle.dns_records.specs.Record.{Record}
use Rattle.dns_messages.specs.declared.header.Header.{Header}
use Rattle.dns_messages.specs.declared.header.Metadata.{Metadata}
use Rattle.dns_messages.specs.declared.response_code.ResponseCode.{ResponseCode}
use Rattle.dns_messages.specs.declared.query.Query.{Query}
use Rattle.dns_messages.specs.declared.edns.Edns.{Edns}
use Rattle.dns_messages.specs.declared.message.Message.{Message}
use Rattle.dns_messages.specs.declared.emit_edns.ExtendedEdns.{ExtendedEdns}
use Rattle.dns_messages.specs.declared.emit.SectionCount.{SectionCount}
use Rattle.dns_messages.specs.declared.emit.SectionCounts.{SectionCounts}
use Rattle.dns_messages.specs.Header.{code_number, code_of}
use Rattle.dns_messages.specs.Cut.{record_item, edns_item, listed, written_edns, is_shorter, with_code, remaining, last_count, cut}

-- what is written for a borrowed OPT record
abbrev pub extended_edns : ExtendedEdns → Edns
extended_edns e = record e.edns.now { rcode_high = e.rcode_high }

-- a value behind a reference, if there is one
abbrev pub lent : {X : Type 0} → Option (Bor X) → Option X
lent {X} found = option_map {T = Bor X} {U = X} (λ x. x.now) found

-- the OPT record with the upper eight bits of the response code, if there is one
abbrev pub extended : ResponseCode → Option Edns → Option Edns
extended code found = option_map {T = Edns} {U = Edns} (with_code code) found

-- the message that has these parts
abbrev pub message_of : Metadata → List Query → List Record → List Record → List Record
    → Option (Bor Edns) → Option (Bor Record) → Message
message_of metadata queries answers authorities additionals edns signature = record {
  metadata = metadata;
  queries = queries;
  answers = answers;
  authorities = authorities;
  additionals = additionals;
  edns = lent edns;
  signature = lent signature;
}

-- the header of what remains of a message under a limit
abbrev pub header_at : ℕ → Message → Header
header_at limit m = record {
  metadata = (cut limit m).metadata;
  counts = record {
    queries = length m.queries;
    answers = length (remaining limit m).answers;
    authorities = length (remaining limit m).authorities;
    additionals = last_count (remaining limit m);
  };
}

-- ---- states between the sections of a message

-- the encoder after the answers that fit
abbrev pub answers_state : EncoderState → Message → EncoderState
answers_state w m = append_fitting record_item w m.answers

-- the encoder after the authority records that fit
abbrev pub authorities_state : EncoderState → Message → EncoderState
authorities_state w m = append_fitting record_item (answers_state w m) m.authorities

-- the encoder after the additional records that fit
abbrev pub additionals_state : EncoderState → Message → EncoderState
additionals_state w m = append_fitting record_item (authorities_state w m) m.additionals

-- the encoder after the OPT record, if it fits
abbrev pub edns_state : EncoderState → Message → EncoderState
edns_state w m = append_fitting edns_item (additionals_state w m) (listed (written_edns m))

-- the encoder after the signature, if it fits
abbrev pub signature_state : EncoderState → Message → EncoderState
signature_state w m = append_fitting record_item (edns_state w m) (listed m.signature)

-- ---- what was written

-- how many items fit, and whether some do not
abbrev pub section_count : {X : Type 0} → (X → Position → List Piece) → EncoderState → List X → SectionCount
section_count pieces w xs = record {
  count = length (fitting_items pieces w xs);
  is_cut = is_shorter (fitting_items pieces w xs) xs;
}

-- those of each section, written from a state on
abbrev pub section_counts : EncoderState → Message → SectionCounts
section_counts w m = record {
  answers = section_count record_item w m.answers;
  authorities = section_count record_item (answers_state w m) m.authorities;
  additionals = section_count record_item (authorities_state w m) m.additionals;
  edns = section_count edns_item (additionals_state w m) (listed (written_edns m));
  signature = section_count record_item (edns_state w m) (listed m.signature);
}

-- the names in all that fits are names
pub record SectionsAreWritable (w : EncoderState) (m : Message) : Type 0 where
  pub answers : AreWritable (fitting_pieces record_item w m.answers)
  pub authorities : AreWritable (fitting_pieces record_item (answers_state w m) m.authorities)
  pub additionals : AreWritable (fitting_pieces record_item (authorities_state w m) m.additionals)
  pub edns : AreWritable (fitting_pieces edns_item (additionals_state w m) (listed (written_edns m)))
  pub signature : AreWritable (fitting_pieces record_item (edns_state w m) (listed m.signature))

-- ---- the header

-- whether something was dropped from one of the sections
abbrev pub some_is_cut : SectionCounts → Bool
some_is_cut k =
    k.answers.is_cut || (k.authorities.is_cut || (k.additionals.is_cut || (k.edns.is_cut || k.signature.is_cut)))

-- the response code in the header of a message with an OPT record, or with none
abbrev pub header_code : ℕ → ResponseCode → ResponseCode
header_code edns code = if edns == 0 then code_of (code_number code % 16) else code
