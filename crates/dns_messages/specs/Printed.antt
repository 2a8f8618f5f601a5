-- Messages as text, in the layout of dig, the lookup utility of BIND 9. The fields of a line are separated by single spaces.
use Rattle.std.specs.Prelude.{◌==◌, if◌then◌else◌, Bool, true, false, ℕ, List, [], ◌∷◌, ◌++◌, length, flat_map, codes, Option, Some, None}
use Rattle.std.specs.Fmt.{decimal, digits}
use Rattle.dns_data.specs.Field.{OptionValue}
use Rattle.dns_data.specs.declared.rdata.RData.TheVariants as of
use Rattle.dns_data.specs.rdata.{data_text}
use Rattle.dns_records.specs.Record.{Record, record_text}
use Rattle.dns_messages.specs.declared.message_type.MessageType.{MessageType}
use Rattle.dns_messages.specs.declared.message_type.MessageType.TheVariants as kinds
use Rattle.dns_messages.specs.declared.op_code.OpCode.{OpCode}
use Rattle.dns_messages.specs.declared.op_code.OpCode.TheVariants as ops
use Rattle.dns_messages.specs.declared.header.Metadata.{Metadata}
use Rattle.dns_messages.specs.declared.query.Query.{Query}
use Rattle.dns_messages.specs.declared.edns.Edns.{Edns}
use Rattle.dns_messages.specs.declared.message.Message.{Message}
use Rattle.dns_messages.specs.Cut.{listed, last_count}
use Rattle.dns_messages.specs.OpCode.{op_text}
use Rattle.dns_messages.specs.ResponseCode.{status_text}
use Rattle.dns_messages.specs.Question.{question_text}

-- ---- the header (RFC 1035 section 4.1.1)

-- the name of a flag that is set, and nothing for one that is clear
abbrev pub flag_text : Bool → List ℕ → List ℕ
flag_text is_set name = if is_set then name else []

-- QR, the flag of a response
abbrev pub is_response : MessageType → Bool
is_response kinds.Query = false
is_response kinds.Response = true

-- what a section is called in an update (RFC 2136 section 2), and in any other message
abbrev pub name_in : OpCode → List ℕ → List ℕ → List ℕ
name_in ops.Update in_update elsewhere = in_update
name_in op in_update elsewhere = elsewhere

-- the first line: opcode, response code and id
abbrev pub status_line : Metadata → List ℕ
status_line m =
    codes ";; ->>HEADER<<- opcode: " ++ op_text m.op_code ++ codes ", status: " ++ status_text m.response_code
    ++ codes ", id: " ++ decimal m.id ++ 10 ∷ []

-- the second line begins with the flags that are set
abbrev pub flags_part : Metadata → List ℕ
flags_part m =
    codes ";; flags:" ++ flag_text (is_response m.message_type) (codes " qr")
    ++ flag_text m.authoritative (codes " aa") ++ flag_text m.truncation (codes " tc")
    ++ flag_text m.recursion_desired (codes " rd") ++ flag_text m.recursion_available (codes " ra")
    ++ flag_text m.authentic_data (codes " ad") ++ flag_text m.checking_disabled (codes " cd") ++ codes "; "

-- the number of entries in a section, before the next number
abbrev pub count_text : List ℕ → ℕ → List ℕ
count_text name count = name ++ codes ": " ++ decimal count ++ codes ", "

-- the number of questions, under the name that it has in an update and elsewhere
abbrev pub queries_count : Message → List ℕ
queries_count m = count_text (name_in m.metadata.op_code (codes "ZONE") (codes "QUERY")) (length m.queries)

-- the same for answers
abbrev pub answers_count : Message → List ℕ
answers_count m = count_text (name_in m.metadata.op_code (codes "PREREQ") (codes "ANSWER")) (length m.answers)

-- the same for authority records
abbrev pub authorities_count : Message → List ℕ
authorities_count m =
    count_text (name_in m.metadata.op_code (codes "UPDATE") (codes "AUTHORITY")) (length m.authorities)

-- the number of additional records, the OPT record and the signature among them
abbrev pub additionals_count : Message → List ℕ
additionals_count m = codes "ADDITIONAL: " ++ decimal (last_count m) ++ 10 ∷ []

-- the second line ends with the four numbers
abbrev pub counts_part : Message → List ℕ
counts_part m = queries_count m ++ answers_count m ++ authorities_count m ++ additionals_count m

-- both lines
abbrev pub header_lines : Message → List ℕ
header_lines m = status_line m.metadata ++ flags_part m.metadata ++ counts_part m

-- ---- sections, each after an empty line; one without entries is left out

-- an empty line, and the title of a section
abbrev pub title_lines : List ℕ → List ℕ
title_lines title = 10 ∷ codes ";; " ++ title ++ codes ":" ++ 10 ∷ []

-- a line for each question, after a semicolon
abbrev pub question_lines : List Query → List ℕ
question_lines queries = flat_map (λ q. 59 ∷ question_text q ++ 10 ∷ []) queries

-- a line for each record
abbrev pub record_lines : List Record → List ℕ
record_lines records = flat_map (λ r. record_text r ++ 10 ∷ []) records

-- the question section
abbrev pub question_section : List ℕ → List Query → List ℕ
question_section title [] = []
question_section title (q ∷ queries) = title_lines title ++ question_lines (q ∷ queries)

-- a section of records
abbrev pub record_section : List ℕ → List Record → List ℕ
record_section title [] = []
record_section title (r ∷ records) = title_lines title ++ record_lines (r ∷ records)

-- ---- the OPT record (RFC 6891 section 6.1)

-- the reserved flags, which must be zero, if one is set
abbrev pub reserved_text : ℕ → List ℕ
reserved_text z = if z == 0 then codes ";" else codes "; MBZ: 0x" ++ digits 16 false z ++ codes ","

-- a line with the options as the data of an OPT record, if there are any
abbrev pub options_line : List OptionValue → List ℕ
options_line [] = []
options_line (o ∷ options) = codes "; OPT: " ++ data_text (of.OPT (o ∷ options)) ++ 10 ∷ []

-- version, flags and payload size
abbrev pub edns_line : Edns → List ℕ
edns_line e =
    codes "; EDNS: version: " ++ decimal e.version ++ codes ", flags:"
    ++ flag_text e.flags.dnssec_ok (codes " do") ++ reserved_text e.flags.z
    ++ codes " udp: " ++ decimal e.max_payload ++ 10 ∷ []

-- both lines, under a title of their own
abbrev pub edns_section : Option Edns → List ℕ
edns_section None = []
edns_section (Some e) =
    title_lines (codes "OPT PSEUDOSECTION") ++ edns_line e ++ options_line e.options

-- ---- messages

-- the question section, under the title that it has in an update and elsewhere
abbrev pub queries_text : Message → List ℕ
queries_text m =
    question_section (name_in m.metadata.op_code (codes "ZONE SECTION") (codes "QUESTION SECTION")) m.queries

-- the answer section
abbrev pub answers_text : Message → List ℕ
answers_text m =
    record_section (name_in m.metadata.op_code (codes "PREREQUISITE SECTION") (codes "ANSWER SECTION")) m.answers

-- the authority section
abbrev pub authorities_text : Message → List ℕ
authorities_text m =
    record_section (name_in m.metadata.op_code (codes "UPDATE SECTION") (codes "AUTHORITY SECTION")) m.authorities

-- the additional section
abbrev pub additionals_text : Message → List ℕ
additionals_text m = record_section (codes "ADDITIONAL SECTION") m.additionals

-- the four sections
abbrev pub sections_text : Message → List ℕ
sections_text m = queries_text m ++ answers_text m ++ authorities_text m ++ additionals_text m

-- a message: the header, the OPT record, the four sections and the signature
abbrev pub message_text : Message → List ℕ
message_text m =
    header_lines m ++ edns_section m.edns ++ sections_text m
    ++ record_section (codes "TSIG PSEUDOSECTION") (listed m.signature)
