-- What is left of a message under a limit, and its bytes (RFC 1035 sections 4.1.1, 4.1.4 and 4.2.1, RFC 2181 section 9).
use Rattle.std.specs.Prelude.{◌≡◌, ◌+◌, ◌/◌, ◌%◌, ◌++◌, ◌||◌, nat_lt, if◌then◌else◌, Bool, List, [], ◌∷◌, ℕ, length, Option, Some, None, option_map}
use Rattle.dns_wire.specs.Encoder.{EncoderState}
use Rattle.dns_wire.specs.Encodable.{Piece, Plain, Position, position_of, start_position, form, after, reach}
use Rattle.dns_wire.specs.declared.name_encoding.NameEncoding.TheVariants.{Uncompressed}
use Rattle.dns_wire.specs.Items.{fitting_prefix, all_pieces}
use Rattle.dns_wire.specs.internal.Sections.{fitting_form, position_behind}
use Rattle.dns_records.specs.Record.{Record, record_pieces}
use Rattle.dns_messages.specs.declared.response_code.ResponseCode.{ResponseCode}
use Rattle.dns_messages.specs.declared.query.Query.{Query}
use Rattle.dns_messages.specs.declared.edns.Edns.{Edns}
use Rattle.dns_messages.specs.declared.message.Message.{Message}
use Rattle.dns_messages.specs.Header.{header_form, code_number, code_of}
use Rattle.dns_messages.specs.Question.{question_pieces}
use Rattle.dns_messages.specs.Edns.{edns_pieces}

-- ---- what is written for each part

-- the pieces of a question, wherever it is written
abbrev pub query_item : Query → Position → List Piece
query_item q s = question_pieces q

-- the pieces of a record that is written at a position
abbrev pub record_item : Record → Position → List Piece
record_item r s = record_pieces s r

-- the pieces of an OPT record that is written at a position
abbrev pub edns_item : Edns → Position → List Piece
edns_item e s = edns_pieces s e

-- an optional value as a list of at most one item: the OPT record and the signature are sections of one record
abbrev pub listed : {X : Type 0} → Option X → List X
listed None = []
listed (Some x) = x ∷ []

-- an item, if it fits
abbrev pub fitting_item : {X : Type 0} → (X → Position → List Piece) → ℕ → Position → Option X → Option X
fitting_item pieces limit s None = None
fitting_item pieces limit s (Some x) = if nat_lt limit (reach s (pieces x s)) then None else Some x

-- the OPT record, with the upper eight bits of the response code (RFC 6891 section 6.1.3)
abbrev pub with_code : ResponseCode → Edns → Edns
with_code code e = record e { rcode_high = (code_number code / 16) % 256 }

-- the OPT record of a message as it is written, with the upper bits of the response code of its header
abbrev pub written_edns : Message → Option Edns
written_edns m = option_map {T = Edns} {U = Edns} (with_code m.metadata.response_code) m.edns

-- ---- positions

-- after the header, which has twelve bytes
abbrev pub header_end : Position
header_end = record start_position { place = 12 }

-- the pieces of the question section, which follows the header
abbrev pub queries_pieces : Message → List Piece
queries_pieces m = all_pieces query_item header_end m.queries

-- the position after the question section
abbrev pub queries_end : Message → Position
queries_end m = after header_end (queries_pieces m)

-- the position after the answers that fit a limit
abbrev pub answers_end : ℕ → Message → Position
answers_end limit m = position_behind record_item limit (queries_end m) m.answers

-- the position after the authority records that fit a limit
abbrev pub authorities_end : ℕ → Message → Position
authorities_end limit m = position_behind record_item limit (answers_end limit m) m.authorities

-- the position after the additional records that fit a limit, before the OPT record
abbrev pub additionals_end : ℕ → Message → Position
additionals_end limit m = position_behind record_item limit (authorities_end limit m) m.additionals

-- the position after the OPT record, if that fits a limit, before the signature
abbrev pub edns_end : ℕ → Message → Position
edns_end limit m = position_behind edns_item limit (additionals_end limit m) (listed (written_edns m))

-- ---- the cut

-- each section up to its first record that does not fit, and the OPT record and the signature if they fit
abbrev pub remaining : ℕ → Message → Message
remaining limit m = record m {
  answers = fitting_prefix record_item limit (queries_end m) m.answers;
  authorities = fitting_prefix record_item limit (answers_end limit m) m.authorities;
  additionals = fitting_prefix record_item limit (authorities_end limit m) m.additionals;
  edns = fitting_item edns_item limit (additionals_end limit m) (written_edns m);
  signature = fitting_item record_item limit (edns_end limit m) m.signature;
}

-- whether a list has fewer items than another
abbrev pub is_shorter : {X : Type 0} → List X → List X → Bool
is_shorter some all = nat_lt (length some) (length all)

-- whether something of a message was dropped
abbrev pub is_cut : Message → Message → Bool
is_cut some all =
    is_shorter some.answers all.answers || (is_shorter some.authorities all.authorities
    || (is_shorter some.additionals all.additionals
    || (is_shorter (listed some.edns) (listed all.edns) || is_shorter (listed some.signature) (listed all.signature))))

-- the response code of a message, of which the header has four bits, and the OPT record eight (RFC 6891 section 6.1.3)
abbrev pub remaining_code : Option Edns → ResponseCode → ResponseCode
remaining_code None code = code_of (code_number code % 16)
remaining_code (Some e) code = code

-- What is left of a message under a limit: TC is set if something was dropped or if it was set before.
abbrev pub cut : ℕ → Message → Message
cut limit m = record (remaining limit m) {
  metadata = record m.metadata {
    truncation = m.metadata.truncation || is_cut (remaining limit m) m;
    response_code = remaining_code (remaining limit m).edns m.metadata.response_code;
  };
}

-- ---- its bytes

-- the records of the additional section, the OPT record and the signature among them
abbrev pub last_count : Message → ℕ
last_count m = length m.additionals + (length (listed m.edns) + length (listed m.signature))

-- the twelve bytes of the header of a message, with its counts (RFC 1035 section 4.1.1)
abbrev pub header_of : Message → List ℕ
header_of m =
    header_form m.metadata (length m.queries) (length m.answers) (length m.authorities) (last_count m)

-- Names are compressed. Those of a dropped record count as tried, and none of its suffixes is remembered.
abbrev pub cut_form : ℕ → Message → List ℕ
cut_form limit m =
    header_of (cut limit m)
    ++ (form header_end (queries_pieces m)
    ++ (fitting_form record_item limit (queries_end m) m.answers
    ++ (fitting_form record_item limit (answers_end limit m) m.authorities
    ++ (fitting_form record_item limit (authorities_end limit m) m.additionals
    ++ (fitting_form edns_item limit (additionals_end limit m) (listed (written_edns m))
    ++ fitting_form record_item limit (edns_end limit m) (listed m.signature))))))

-- what is in the place of the header until its counts are known
abbrev pub twelve_zeros : List ℕ
twelve_zeros = 0 ∷ 0 ∷ 0 ∷ 0 ∷ 0 ∷ 0 ∷ 0 ∷ 0 ∷ 0 ∷ 0 ∷ 0 ∷ 0 ∷ []

-- how far header and questions reach: under a smaller limit, a message is refused
abbrev pub front_reach : Message → ℕ
front_reach m = reach start_position (Plain twelve_zeros ∷ queries_pieces m)

-- ---- without a limit

-- where names are not compressed
abbrev pub uncompressed_position : Position
uncompressed_position = record start_position { encoding = Uncompressed }

-- the length of items whose names are not compressed
abbrev pub items_len : {X : Type 0} → (X → Position → List Piece) → List X → ℕ
items_len pieces [] = 0
items_len pieces (x ∷ xs) =
    length (form uncompressed_position (pieces x uncompressed_position)) + items_len pieces xs

-- the length of a message whose names are not compressed: it is not cut under a limit that is as great
abbrev pub uncompressed_len : Message → ℕ
uncompressed_len m =
    12 + (items_len query_item m.queries + (items_len record_item m.answers
    + (items_len record_item m.authorities + (items_len record_item m.additionals
    + (items_len edns_item (listed m.edns) + items_len record_item (listed m.signature))))))

-- ---- encoders

-- Nothing was written yet, and only the maximum size may have been set.
pub record IsFresh (w : EncoderState) : Type 0 where
  pub bytes : w.bytes ≡ []
  pub position : position_of w ≡ start_position
