-- What a message must be to be written and read as itself (RFC 1035 section 4.1, RFC 6891 section 6.1, RFC 2136 section 2).
use Rattle.std.specs.Prelude.{◌≡◌, ◌^◌, ◌<◌, ◌/◌, Bool, true, false, not, ◌||◌, IfSome, Option, Some, None}
use Rattle.std.specs.List.{AllByRecursion}
use Rattle.dns_wire.specs.codes.RecordType.{type_number, type_of}
use Rattle.dns_wire.specs.codes.DNSClass.{class_number, class_of}
use Rattle.dns_data.specs.rdata.{is_update_data}
use Rattle.dns_records.specs.Record.{Record, IsSoundRecord}
use Rattle.dns_messages.specs.declared.header.Metadata.{Metadata}
use Rattle.dns_messages.specs.declared.op_code.OpCode.{OpCode}
use Rattle.dns_messages.specs.declared.op_code.OpCode.TheVariants as ops
use Rattle.dns_messages.specs.declared.response_code.ResponseCode.{ResponseCode}
use Rattle.dns_messages.specs.declared.query.Query.{Query}
use Rattle.dns_messages.specs.declared.edns.Edns.{Edns}
use Rattle.dns_messages.specs.declared.message.Message.{Message}
use Rattle.dns_messages.specs.Header.{op_number, op_of, code_number, code_of}
use Rattle.dns_messages.specs.Edns.{IsSoundEdns}
use Rattle.dns_messages.specs.Section.{is_opt, is_signature}

-- the opcode has four bits, and the response code twelve, of which an OPT record has the upper eight; both are what their
-- numbers stand for
pub record IsSoundMetadata (m : Metadata) : Type 0 where
  pub id_fits : m.id < 2 ^ 16
  pub op_fits : op_number m.op_code < 16
  pub op_named : op_of (op_number m.op_code) ≡ m.op_code
  pub code_fits : code_number m.response_code < 4096
  pub code_named : code_of (code_number m.response_code) ≡ m.response_code

-- A question that decodes to itself: its name is fully qualified, and its type and class are the variants of their numbers.
pub record IsSoundQuery (q : Query) : Type 0 where
  pub fqdn : q.name.is_fqdn ≡ true
  pub type_fits : type_number q.query_type < 2 ^ 16
  pub type_named : type_of (type_number q.query_type) ≡ q.query_type
  pub class_fits : class_number q.query_class < 2 ^ 16
  pub class_named : class_of (class_number q.query_class) ≡ q.query_class

-- whether an opcode is that of dynamic updates (RFC 2136 section 1.3)
abbrev pub is_update_code : OpCode → Bool
is_update_code ops.Update = true
is_update_code other = false

-- A record of a section: neither an OPT record nor a signature, and with data, except in an update (RFC 2136 section 2.4).
pub record IsSoundIn (is_update : Bool) (r : Record) : Type 0 where
  pub sound : IsSoundRecord r
  pub not_opt : is_opt r ≡ false
  pub not_signature : is_signature r ≡ false
  pub has_data : (is_update || not (is_update_data r.rdata)) ≡ true

-- The upper eight bits of the response code are in the OPT record (RFC 6891 section 6.1.3).
abbrev pub IsExtendedBy : Option Edns → ResponseCode → Type 0
IsExtendedBy None code = code_number code < 16
IsExtendedBy (Some e) code = e.rcode_high ≡ code_number code / 16

-- a signature is a TSIG record with data
pub record IsSoundSignature (r : Record) : Type 0 where
  pub sound : IsSoundRecord r
  pub signature : is_signature r ≡ true

-- A message that decodes to itself, unless it is cut: each of its parts does, and its OPT record has the upper bits of its code.
pub record IsSound (m : Message) : Type 0 where
  pub metadata : IsSoundMetadata m.metadata
  pub queries : AllByRecursion IsSoundQuery m.queries
  pub answers : AllByRecursion (IsSoundIn (is_update_code m.metadata.op_code)) m.answers
  pub authorities : AllByRecursion (IsSoundIn (is_update_code m.metadata.op_code)) m.authorities
  pub additionals : AllByRecursion (IsSoundIn (is_update_code m.metadata.op_code)) m.additionals
  pub edns : IfSome m.edns IsSoundEdns
  pub extended : IsExtendedBy m.edns m.metadata.response_code
  pub signature : IfSome m.signature IsSoundSignature
