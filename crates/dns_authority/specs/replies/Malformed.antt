-- Requests that do not decode, and the reply to them (RFC 1035 section 4.1.1, RFC 6891 section 7).
use Rattle.std.specs.Prelude.{true, false, ◌||◌, Bool, List, [], ◌∷◌, ℕ, Option, Some, None}
use Rattle.dns_wire.specs.declared.error.DecodeError.{DecodeError}
use Rattle.dns_messages.specs.declared.response_code.ResponseCode.TheVariants.{FormErr}
use Rattle.dns_messages.specs.declared.header.Metadata.{Metadata}
use Rattle.dns_messages.specs.declared.edns.Edns.{Edns}
use Rattle.dns_messages.specs.declared.message.Message.{Message}
use Rattle.dns_messages.specs.Header.{response_metadata}
use Rattle.dns_messages.specs.Message.{empty_message}
use Rattle.dns_messages.specs.Section.{is_opt_type}
use Rattle.dns_message_bytes.specs.view.MessageView.{RawMessage, ReadsRawMessage, RefusesRawMessage}
use Rattle.dns_message_bytes.specs.view.RecordView.{RawRecord}

-- whether one of these records, whose data is not decoded, is an OPT record
abbrev pub has_raw_opt : List RawRecord → Bool
has_raw_opt [] = false
has_raw_opt (r ∷ rs) = is_opt_type r.head.record_type || has_raw_opt rs

-- Whether bytes have an OPT record: they have the form of a message with one in its additional section (RFC 6891 section 6.1.1),
-- whatever the data of its records.
pub data IsOptFound (bytes : List ℕ) : Bool → Type 0 where
  by_form : (m : RawMessage) → ReadsRawMessage bytes m → IsOptFound bytes (has_raw_opt m.additionals)
  formless : {error : DecodeError} → RefusesRawMessage bytes error → IsOptFound bytes false

-- the header of the reply to a malformed request
abbrev pub malformed_metadata : Metadata → Metadata
malformed_metadata request = record (response_metadata request) { response_code = FormErr }

-- an OPT record without flags and options, if the request has one
abbrev pub plain_edns : Bool → Option Edns
plain_edns false = None
plain_edns true = Some (record {
  rcode_high = 0;
  version = 0;
  flags = record { dnssec_ok = false; z = 0 };
  max_payload = 1232;
  options = [];
})

-- The reply to a malformed request with this header is FormErr (RFC 1035 section 4.1.1). It has an OPT record if the request has one
-- (RFC 6891 section 7).
abbrev pub malformed_reply : Bool → Metadata → Message
malformed_reply has_opt request = record (empty_message (malformed_metadata request)) { edns = plain_edns has_opt }
