-- The cut of small messages, computed.
use Rattle.std.proofs.Common.{◌≡◌, ℕ, true, false, List, [], ◌∷◌, ◌++◌, Option, Some, None, refl}
use Rattle.dns_wire.specs.declared.codes.record_type.RecordType.TheVariants as types
use Rattle.dns_wire.specs.declared.codes.dns_class.DNSClass.TheVariants as classes
use Rattle.dns_names.specs.Name.{DomainName}
use Rattle.dns_data.specs.declared.rdata.RData.TheVariants as of
use Rattle.dns_records.specs.Record.{Record}
use Rattle.dns_messages.specs.declared.message_type.MessageType.TheVariants as kinds
use Rattle.dns_messages.specs.declared.op_code.OpCode.TheVariants as ops
use Rattle.dns_messages.specs.declared.response_code.ResponseCode.{ResponseCode}
use Rattle.dns_messages.specs.declared.response_code.ResponseCode.TheVariants as codes
use Rattle.dns_messages.specs.declared.edns.Edns.{Edns}
use Rattle.dns_messages.specs.declared.message.Message.{Message}
use Rattle.dns_messages.specs.Cut.{cut_form, front_reach}

abbrev a_t : DomainName
a_t = record { is_fqdn = true; labels = (97 ∷ []) ∷ (116 ∷ []) ∷ [] }

abbrev address : DomainName → Record
address owner = record { name = owner; dns_class = classes.IN; ttl = 60; rdata = of.A (record { 0 = record { octets = 10 ∷ 0 ∷ 0 ∷ 1 ∷ [] } }) }

abbrev reply_with : ResponseCode → List Record → Option Edns → Message
reply_with code answers edns = record {
  metadata = record {
    id = 1;
    message_type = kinds.Response;
    op_code = ops.Query;
    authoritative = true;
    truncation = false;
    recursion_desired = true;
    recursion_available = false;
    authentic_data = false;
    checking_disabled = false;
    response_code = code;
  };
  queries = record { name = a_t; query_type = types.A; query_class = classes.IN } ∷ [];
  answers = answers;
  authorities = [];
  additionals = [];
  edns = edns;
  signature = None;
}

abbrev reply : List Record → Option Edns → Message
reply answers edns = reply_with codes.NoError answers edns

abbrev opt : Edns
opt = record { rcode_high = 0; version = 0; flags = record { dnssec_ok = false; z = 0 }; max_payload = 1232; options = [] }

abbrev question : List ℕ
question = 1 ∷ 97 ∷ 1 ∷ 116 ∷ 0 ∷ 0 ∷ 1 ∷ 0 ∷ 1 ∷ []

-- 37 bytes are the whole reply
whole_at_37 : cut_form 37 (reply (address a_t ∷ []) None) ≡ (0 ∷ 1 ∷ 133 ∷ 0 ∷ 0 ∷ 1 ∷ 0 ∷ 1 ∷ 0 ∷ 0 ∷ 0 ∷ 0 ∷ []) ++ (question ++ (192 ∷ 12 ∷ 0 ∷ 1 ∷ 0 ∷ 1 ∷ 0 ∷ 0 ∷ 0 ∷ 60 ∷ 0 ∷ 4 ∷ 10 ∷ 0 ∷ 0 ∷ 1 ∷ []))
whole_at_37 = refl

-- under 36 bytes header and question remain, with TC
cut_at_36 : cut_form 36 (reply (address a_t ∷ []) None) ≡ (0 ∷ 1 ∷ 135 ∷ 0 ∷ 0 ∷ 1 ∷ 0 ∷ 0 ∷ 0 ∷ 0 ∷ 0 ∷ 0 ∷ []) ++ question
cut_at_36 = refl

-- an OPT record that fits after a section that was cut is kept
opt_at_36 : cut_form 36 (reply (address a_t ∷ []) (Some opt)) ≡ (0 ∷ 1 ∷ 135 ∷ 0 ∷ 0 ∷ 1 ∷ 0 ∷ 0 ∷ 0 ∷ 0 ∷ 0 ∷ 1 ∷ []) ++ (question ++ (0 ∷ 0 ∷ 41 ∷ 4 ∷ 208 ∷ 0 ∷ 0 ∷ 0 ∷ 0 ∷ 0 ∷ 0 ∷ []))
opt_at_36 = refl

-- the response code 16 is in header and OPT record
extended_code : cut_form 32 (reply_with (codes.Unknown 16) [] (Some opt)) ≡ (0 ∷ 1 ∷ 133 ∷ 0 ∷ 0 ∷ 1 ∷ 0 ∷ 0 ∷ 0 ∷ 0 ∷ 0 ∷ 1 ∷ []) ++ (question ++ (0 ∷ 0 ∷ 41 ∷ 4 ∷ 208 ∷ 1 ∷ 0 ∷ 0 ∷ 0 ∷ 0 ∷ 0 ∷ []))
extended_code = refl

-- header and question reach 21 bytes: a limit of 20 is refused
front_at_21 : front_reach (reply [] None) ≡ 21
front_at_21 = refl
