-- The header of a message (RFC 1035 section 4.1.1, with AD and CD of RFC 4035 section 3.2).
use Rattle.std.specs.Prelude.{◌≡◌, ◌==◌, ◌+◌, ◌*◌, ◌/◌, ◌%◌, ◌^◌, ◌<◌, ◌++◌, if◌then◌else◌, Bool, false, nat_le, List, ◌∷◌, ℕ, length, drop, Option, Some, None}
use Rattle.std.specs.Int.{w16, to_be_bytes}
use Rattle.dns_wire.specs.Decodable.{BytesAt}
use Rattle.dns_wire.specs.declared.error.DecodeError.{DecodeError}
use Rattle.dns_wire.specs.declared.error.DecodeError.TheVariants.{InsufficientBytes}
use Rattle.dns_messages.specs.declared.message_type.MessageType.{MessageType}
use Rattle.dns_messages.specs.declared.message_type.MessageType.TheVariants as kinds
use Rattle.dns_messages.specs.declared.op_code.OpCode.{OpCode}
use Rattle.dns_messages.specs.declared.response_code.ResponseCode.TheVariants as codes
use Rattle.dns_messages.specs.declared.header.Flags.{Flags}
use Rattle.dns_messages.specs.declared.header.Metadata.{Metadata}
use Rattle.dns_messages.specs.declared.header.HeaderCounts.{HeaderCounts}
use Rattle.dns_messages.specs.declared.header.Header.{Header}
pub use Rattle.dns_messages.specs.OpCode.{op_number, op_of}
pub use Rattle.dns_messages.specs.ResponseCode.{code_number, code_of}

-- ---- values

-- all flags are clear, and there is no error
abbrev pub new_metadata : ℕ → MessageType → OpCode → Metadata
new_metadata id kind op = record {
  id = id;
  message_type = kind;
  op_code = op;
  authoritative = false;
  truncation = false;
  recursion_desired = false;
  recursion_available = false;
  authentic_data = false;
  checking_disabled = false;
  response_code = codes.NoError;
}

-- a response copies the id, the opcode and RD (RFC 1035 section 4.1.1), and CD (RFC 4035 section 3.2.2)
abbrev pub response_metadata : Metadata → Metadata
response_metadata request = record (new_metadata request.id kinds.Response request.op_code) {
  recursion_desired = request.recursion_desired;
  checking_disabled = request.checking_disabled;
}

-- the flags of a header, without QR
abbrev pub flags_of : Metadata → Flags
flags_of m = record {
  authoritative = m.authoritative;
  truncation = m.truncation;
  recursion_desired = m.recursion_desired;
  recursion_available = m.recursion_available;
  authentic_data = m.authentic_data;
  checking_disabled = m.checking_disabled;
}

-- ---- encoding

-- the bit of a flag
abbrev pub bit : Bool → ℕ
bit flag = if flag then 1 else 0

-- QR: 0 for a query, 1 for a response
abbrev pub kind_bit : MessageType → ℕ
kind_bit kinds.Query = 0
kind_bit kinds.Response = 1

-- the third byte: QR, four bits of opcode, AA, TC, RD
abbrev pub third_byte : Metadata → ℕ
third_byte m =
    128 * kind_bit m.message_type + (8 * (op_number m.op_code % 16)
    + (4 * bit m.authoritative + (2 * bit m.truncation + bit m.recursion_desired)))

-- the fourth byte: RA, a zero, AD, CD, four bits of response code
abbrev pub fourth_byte : Metadata → ℕ
fourth_byte m =
    128 * bit m.recursion_available + (32 * bit m.authentic_data
    + (16 * bit m.checking_disabled + code_number m.response_code % 16))

-- twelve bytes: the id, two bytes of flags, and the number of entries in each section
abbrev pub header_layout : ℕ → ℕ → ℕ → ℕ → ℕ → ℕ → ℕ → List ℕ
header_layout id third fourth queries answers authorities additionals =
    to_be_bytes w16 id ++ (third ∷ fourth ∷ (to_be_bytes w16 queries ++ (to_be_bytes w16 answers
    ++ (to_be_bytes w16 authorities ++ to_be_bytes w16 additionals))))

-- the bytes of a header with these counts
abbrev pub header_form : Metadata → ℕ → ℕ → ℕ → ℕ → List ℕ
header_form m = header_layout m.id (third_byte m) (fourth_byte m)

-- the bytes of a header
abbrev pub encoded_header : Header → List ℕ
encoded_header h =
    header_form h.metadata
    h.counts.queries h.counts.answers h.counts.authorities h.counts.additionals

-- ---- decoding

-- whether the bit of this weight is set
abbrev pub has_bit : ℕ → ℕ → Bool
has_bit weight byte = (byte / weight) % 2 == 1

-- the metadata that an id and two bytes of flags decode to; the bit between RA and AD is ignored
abbrev pub metadata_of : ℕ → ℕ → ℕ → Metadata
metadata_of id third fourth = record {
  id = id;
  message_type = if has_bit 128 third then kinds.Response else kinds.Query;
  op_code = op_of ((third / 8) % 16);
  authoritative = has_bit 4 third;
  truncation = has_bit 2 third;
  recursion_desired = has_bit 1 third;
  recursion_available = has_bit 128 fourth;
  authentic_data = has_bit 32 fourth;
  checking_disabled = has_bit 16 fourth;
  response_code = code_of (fourth % 16);
}

-- the metadata that bytes begin with, if they are twelve at least: an id, two bytes of flags, and eight of counts
abbrev pub peeked_metadata : List ℕ → Option Metadata
peeked_metadata (first ∷ second ∷ third ∷ fourth ∷ counts) =
    if nat_le 8 (length counts) then Some (metadata_of (256 * first + second) third fourth) else None
peeked_metadata bytes = None

-- the counts of a message that has nothing but its header
abbrev pub no_counts : HeaderCounts
no_counts = record { queries = 0; answers = 0; authorities = 0; additionals = 0 }

-- the counts have 16 bits each
pub record DoCountsFit (counts : HeaderCounts) : Type 0 where
  pub queries : counts.queries < 2 ^ 16
  pub answers : counts.answers < 2 ^ 16
  pub authorities : counts.authorities < 2 ^ 16
  pub additionals : counts.additionals < 2 ^ 16

-- the twelve bytes from a place up to an end decode to a header
pub record DecodesHeader (bytes : List ℕ) (place : ℕ) (h : Header) (end : ℕ) : Type 0 where
  pub third : ℕ
  pub fourth : ℕ
  pub there : BytesAt bytes place (header_layout h.metadata.id third fourth
      h.counts.queries h.counts.answers h.counts.authorities h.counts.additionals) end
  pub metadata : h.metadata ≡ metadata_of h.metadata.id third fourth
  pub id_fits : h.metadata.id < 2 ^ 16
  pub counts_fit : DoCountsFit h.counts

-- no header can be decoded: fewer than twelve bytes follow
abbrev pub RefusesHeader : List ℕ → ℕ → DecodeError → Type 0
RefusesHeader bytes place error = (error ≡ InsufficientBytes) × (length (drop place bytes) < 12)

-- ---- round trips

-- the opcode and the response code fit in four bits, and are the variants that their numbers decode to
pub record FitsHeader (m : Metadata) : Type 0 where
  pub id_fits : m.id < 2 ^ 16
  pub op_fits : op_number m.op_code < 16
  pub op_named : op_of (op_number m.op_code) ≡ m.op_code
  pub code_fits : code_number m.response_code < 16
  pub code_named : code_of (code_number m.response_code) ≡ m.response_code

-- A header that decodes to itself: its opcode and its response code fit in four bits, and its counts in 16.
pub record IsSoundHeader (h : Header) : Type 0 where
  pub metadata : FitsHeader h.metadata
  pub counts_fit : DoCountsFit h.counts
