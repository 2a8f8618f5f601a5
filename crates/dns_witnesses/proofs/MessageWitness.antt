-- A response whose records are read in place: the question `t. TXT`, the alias `a.t. CNAME b.t.` and a text of `b.t.` as answers, a name
-- server of `t.`, and an OPT record. The owners have pointers, one of them into the data of a record. It has one structure and is not
-- refused. Cut off within the data of the first answer, it is refused and has no structure.
use Rattle.std.proofs.Common.{◌≡◌, true, false, ℕ, List, [], ◌∷◌, get_or, Some, None, Ok, refl, sym, ap, subst, arith}
use Rattle.dns_wire.proofs.ElementLaws.{element-label}
use Rattle.dns_wire.specs.Element.{Label, element}
use Rattle.dns_wire.specs.Reading.{at_closing, at_label, at_pointer}
use Rattle.dns_wire.specs.declared.codes.dns_class.DNSClass.TheVariants as classes
use Rattle.dns_wire.specs.declared.codes.record_type.RecordType.TheVariants as types
use Rattle.dns_wire.specs.declared.error.DecodeError.{DecodeError}
use Rattle.dns_wire.specs.declared.error.DecodeError.TheVariants.{InsufficientBytes}
use Rattle.dns_names.specs.Name.{DomainName}
use Rattle.dns_data.specs.rdata.{ReadsData}
use Rattle.dns_data.specs.declared.rdata.RData.TheVariants as of
use Rattle.dns_records.specs.Record.{Record, ReadsRecord, head_of}
use Rattle.dns_records.specs.RecordHead.{ReadsHead}
use Rattle.dns_messages.specs.Grammar.{ReadsMessage, ReadsQuestion, ReadsQuestions}
use Rattle.dns_messages.specs.Header.{DecodesHeader, new_metadata}
use Rattle.dns_messages.specs.declared.edns.Edns.{Edns}
use Rattle.dns_messages.specs.declared.header.Header.{Header}
use Rattle.dns_messages.specs.declared.header.Metadata.{Metadata}
use Rattle.dns_messages.specs.declared.message.Message.{Message}
use Rattle.dns_messages.specs.declared.message_type.MessageType.TheVariants as kinds
use Rattle.dns_messages.specs.declared.op_code.OpCode.TheVariants as ops
use Rattle.dns_messages.specs.declared.query.Query.{Query}
use Rattle.dns_message_bytes.specs.view.MessageView.{DecodesRaw, DecodesRawMessage, RawMessage, ReadsRawMessage, RefusesRawMessage}
use Rattle.dns_message_bytes.specs.view.MessageView.RefusesRawMessage.{no_answers}
use Rattle.dns_message_bytes.specs.view.RecordView.{RawRecord, ReadsRaw}
use Rattle.dns_message_bytes.specs.view.RecordView.RefusesRaw.{short_data}
use Rattle.dns_message_bytes.proofs.OneRawMessageLaws.{raw_message_not_refused, raw_message_same}
use Rattle.dns_message_bytes.proofs.RawMessageLaws.{raw_message}

-- ---- the bytes

-- what is after the label `a` of the first owner, and after the label `t` of the question
abbrev after_a : List ℕ → List ℕ
after_a more = 192 ∷ 12 ∷ 0 ∷ 5 ∷ 0 ∷ 1 ∷ 0 ∷ 0 ∷ 0 ∷ 60 ∷ 0 ∷ 4 ∷ more

abbrev after_t : List ℕ → List ℕ
after_t more = 0 ∷ 0 ∷ 16 ∷ 0 ∷ 1 ∷ 1 ∷ 97 ∷ after_a more

-- the header, the question, and the first answer up to its data
abbrev front : List ℕ → List ℕ
front more = 0 ∷ 7 ∷ 132 ∷ 0 ∷ 0 ∷ 1 ∷ 0 ∷ 2 ∷ 0 ∷ 1 ∷ 0 ∷ 1 ∷ 1 ∷ 116 ∷ after_t more

-- the text, the name server, and the OPT record
abbrev others : List ℕ
others = 192 ∷ 33 ∷ 0 ∷ 16 ∷ 0 ∷ 1 ∷ 0 ∷ 0 ∷ 0 ∷ 60 ∷ 0 ∷ 2 ∷ 1 ∷ 120
    ∷ 192 ∷ 12 ∷ 0 ∷ 2 ∷ 0 ∷ 1 ∷ 0 ∷ 0 ∷ 0 ∷ 60 ∷ 0 ∷ 4 ∷ 1 ∷ 99 ∷ 192 ∷ 12
    ∷ 0 ∷ 0 ∷ 41 ∷ 4 ∷ 208 ∷ 0 ∷ 0 ∷ 0 ∷ 0 ∷ 0 ∷ 0 ∷ []

abbrev bytes : List ℕ
bytes = front (1 ∷ 98 ∷ 192 ∷ 12 ∷ others)

-- three of the four bytes of the first answer's data, and nothing else
abbrev cut_bytes : List ℕ
cut_bytes = front (1 ∷ 98 ∷ 192 ∷ [])

-- ---- the message

abbrev name_of : List (List ℕ) → DomainName
name_of labels = record { is_fqdn = true; labels = labels }

abbrev below_t : ℕ → DomainName
below_t letter = name_of ((letter ∷ []) ∷ (116 ∷ []) ∷ [])

abbrev question : Query
question = record { name = name_of ((116 ∷ []) ∷ []); query_type = types.TXT; query_class = classes.IN }

abbrev alias : Record
alias = record { name = below_t 97; dns_class = classes.IN; ttl = 60; rdata = of.CNAME (record { 0 = below_t 98 }) }

abbrev text : Record
text = record { name = below_t 98; dns_class = classes.IN; ttl = 60; rdata = of.TXT ((120 ∷ []) ∷ []) }

abbrev server : Record
server = record { name = name_of ((116 ∷ []) ∷ []); dns_class = classes.IN; ttl = 60; rdata = of.NS (record { 0 = below_t 99 }) }

abbrev opt : Record
opt = record { name = name_of []; dns_class = classes.OPT 1232; ttl = 0; rdata = of.OPT [] }

abbrev edns : Edns
edns = record { rcode_high = 0; version = 0; flags = record { dnssec_ok = false; z = 0 }; max_payload = 1232; options = [] }

abbrev metadata : Metadata
metadata = record (new_metadata 7 kinds.Response ops.Query) { authoritative = true }

abbrev message : Message
message = record {
  metadata = metadata;
  queries = question ∷ [];
  answers = alias ∷ text ∷ [];
  authorities = server ∷ [];
  additionals = [];
  edns = Some edns;
  signature = None;
}

-- ---- its structure

abbrev raw_of : Record → ℕ → List ℕ → RawRecord
raw_of r len rdata = record { head = head_of r len; rdata = rdata }

abbrev header : Header
header = record { metadata = metadata; counts = record { queries = 1; answers = 2; authorities = 1; additionals = 1 } }

-- the structure, with some data of the second answer
abbrev structure_with : List ℕ → RawMessage
structure_with rdata = record {
  head = header;
  queries = question ∷ [];
  answers = raw_of alias 4 (1 ∷ 98 ∷ 192 ∷ 12 ∷ []) ∷ raw_of text 2 rdata ∷ [];
  authorities = raw_of server 4 (1 ∷ 99 ∷ 192 ∷ 12 ∷ []) ∷ [];
  additionals = raw_of opt 0 [] ∷ [];
}

abbrev structure : RawMessage
structure = structure_with (1 ∷ 120 ∷ [])

-- ---- what is read, whatever follows

-- a label of one letter
one_letter : (letter : ℕ) (more : List ℕ) → element (1 ∷ letter ∷ more) ≡ Ok (Label (letter ∷ []))
one_letter letter more = element-label (letter ∷ []) more (record { some = omega arith; most = omega arith })

reads_header : (more : List ℕ) → DecodesHeader (front more) 0 header 12
reads_header more = record {
  third = 132;
  fourth = 0;
  there = record { ends = refl; within = omega arith; there = refl };
  metadata = refl;
  id_fits = omega arith;
  counts_fit = record { queries = omega arith; answers = omega arith; authorities = omega arith; additionals = omega arith };
}

reads_question : (more : List ℕ) → ReadsQuestion (front more) 12 question 19
reads_question more = record {
  sound = record { fqdn = refl; type_fits = omega arith; type_named = refl; class_fits = omega arith; class_named = refl };
  there = (15, at_label {label = 116 ∷ []} (one_letter 116 (after_t more)) (omega arith) (at_closing refl), (17, record { ends = refl; within = omega arith; there = refl }, (19, record { ends = refl; within = omega arith; there = refl }, refl)));
}

reads_questions : (more : List ℕ) → ReadsQuestions (front more) 12 1 (question ∷ []) 19
reads_questions more = record { queries = (19, reads_question more, refl); count_is = refl }

alias_head : (more : List ℕ) → ReadsHead (front more) 19 (head_of alias 4) 33
alias_head more = record {
  fqdn = refl;
  type_fits = omega arith;
  type_named = refl;
  class = 1;
  class_fits = omega arith;
  class_named = refl;
  ttl_fits = omega arith;
  len_fits = omega arith;
  there = (23, at_label {label = 97 ∷ []} (one_letter 97 (after_a more)) (omega arith) (at_pointer {target = 12} refl (omega arith) (at_label {label = 116 ∷ []} (one_letter 116 (after_t more)) (omega arith) (at_closing refl))), (25, record { ends = refl; within = omega arith; there = refl }, (27, record { ends = refl; within = omega arith; there = refl }, (31, record { ends = refl; within = omega arith; there = refl }, (33, record { ends = refl; within = omega arith; there = refl }, refl)))));
}

-- ---- the other records

text_head : ReadsHead bytes 37 (head_of text 2) 49
text_head = record {
  fqdn = refl;
  type_fits = omega arith;
  type_named = refl;
  class = 1;
  class_fits = omega arith;
  class_named = refl;
  ttl_fits = omega arith;
  len_fits = omega arith;
  there = (39, at_pointer {target = 33} refl (omega arith) (at_label {label = 98 ∷ []} refl (omega arith) (at_pointer {target = 12} refl (omega arith) (at_label {label = 116 ∷ []} refl (omega arith) (at_closing refl)))), (41, record { ends = refl; within = omega arith; there = refl }, (43, record { ends = refl; within = omega arith; there = refl }, (47, record { ends = refl; within = omega arith; there = refl }, (49, record { ends = refl; within = omega arith; there = refl }, refl)))));
}

server_head : ReadsHead bytes 51 (head_of server 4) 63
server_head = record {
  fqdn = refl;
  type_fits = omega arith;
  type_named = refl;
  class = 1;
  class_fits = omega arith;
  class_named = refl;
  ttl_fits = omega arith;
  len_fits = omega arith;
  there = (53, at_pointer {target = 12} refl (omega arith) (at_label {label = 116 ∷ []} refl (omega arith) (at_closing refl)), (55, record { ends = refl; within = omega arith; there = refl }, (57, record { ends = refl; within = omega arith; there = refl }, (61, record { ends = refl; within = omega arith; there = refl }, (63, record { ends = refl; within = omega arith; there = refl }, refl)))));
}

opt_head : ReadsHead bytes 67 (head_of opt 0) 78
opt_head = record {
  fqdn = refl;
  type_fits = omega arith;
  type_named = refl;
  class = 1232;
  class_fits = omega arith;
  class_named = refl;
  ttl_fits = omega arith;
  len_fits = omega arith;
  there = (68, at_closing refl, (70, record { ends = refl; within = omega arith; there = refl }, (72, record { ends = refl; within = omega arith; there = refl }, (76, record { ends = refl; within = omega arith; there = refl }, (78, record { ends = refl; within = omega arith; there = refl }, refl)))));
}

alias_data : ReadsData bytes 33 types.CNAME 4 alias.rdata
alias_data = record {
  of_type = refl;
  sound = record { values = (refl, tt); fields = refl; type_fits = omega arith; type_named = refl; fits = omega arith };
  there = (37, at_label {label = 98 ∷ []} refl (omega arith) (at_pointer {target = 12} refl (omega arith) (at_label {label = 116 ∷ []} refl (omega arith) (at_closing refl))), refl);
}

text_data : ReadsData bytes 49 types.TXT 2 text.rdata
text_data = record {
  of_type = refl;
  sound = record { values = ((λ e. absurd (cc), (omega arith, tt)), tt); fields = refl; type_fits = omega arith; type_named = refl; fits = omega arith };
  there = (50, record { ends = refl; within = omega arith; there = refl }, (51, record { ends = refl; within = omega arith; there = refl }, refl));
}

server_data : ReadsData bytes 63 types.NS 4 server.rdata
server_data = record {
  of_type = refl;
  sound = record { values = (refl, tt); fields = refl; type_fits = omega arith; type_named = refl; fits = omega arith };
  there = (67, at_label {label = 99 ∷ []} refl (omega arith) (at_pointer {target = 12} refl (omega arith) (at_label {label = 116 ∷ []} refl (omega arith) (at_closing refl))), refl);
}

opt_data : ReadsData bytes 78 types.OPT 0 opt.rdata
opt_data = record {
  of_type = refl;
  sound = record { values = (tt, tt); fields = refl; type_fits = omega arith; type_named = refl; fits = omega arith };
  there = refl;
}

reads_alias : ReadsRecord bytes 19 alias 37
reads_alias = record { len = 4; data_place = 33; head = alias_head (1 ∷ 98 ∷ 192 ∷ 12 ∷ others); rdata = alias_data; ends = refl }

reads_text : ReadsRecord bytes 37 text 51
reads_text = record { len = 2; data_place = 49; head = text_head; rdata = text_data; ends = refl }

reads_server : ReadsRecord bytes 51 server 67
reads_server = record { len = 4; data_place = 63; head = server_head; rdata = server_data; ends = refl }

reads_opt : ReadsRecord bytes 67 opt 78
reads_opt = record { len = 0; data_place = 78; head = opt_head; rdata = opt_data; ends = refl }

-- ---- the message that the bytes decode to

pub reads_message : ReadsMessage bytes message
reads_message = record {
  head = header;
  header = reads_header (1 ∷ 98 ∷ 192 ∷ 12 ∷ others);
  queries_end = 19;
  queries = reads_questions (1 ∷ 98 ∷ 192 ∷ 12 ∷ others);
  answers_end = 51;
  answers = record { records = (37, reads_alias, (51, reads_text, refl)); count_is = refl; placed = (refl, (refl, tt)) };
  authorities_end = 67;
  authorities = record { records = (67, reads_server, refl); count_is = refl; placed = (refl, tt) };
  last = opt ∷ [];
  end = 78;
  additionals = record { records = (78, reads_opt, refl); count_is = refl; placed = (refl, tt) };
  ordinary = refl;
  edns = refl;
  signature = refl;
  metadata = refl;
}

-- ---- the structure that is read

raw_alias : ReadsRaw bytes 19 (raw_of alias 4 (1 ∷ 98 ∷ 192 ∷ 12 ∷ [])) 37
raw_alias = record { data_place = 33; head = alias_head (1 ∷ 98 ∷ 192 ∷ 12 ∷ others); len = refl; there = record { ends = refl; within = omega arith; there = refl } }

raw_text : ReadsRaw bytes 37 (raw_of text 2 (1 ∷ 120 ∷ [])) 51
raw_text = record { data_place = 49; head = text_head; len = refl; there = record { ends = refl; within = omega arith; there = refl } }

raw_server : ReadsRaw bytes 51 (raw_of server 4 (1 ∷ 99 ∷ 192 ∷ 12 ∷ [])) 67
raw_server = record { data_place = 63; head = server_head; len = refl; there = record { ends = refl; within = omega arith; there = refl } }

raw_opt : ReadsRaw bytes 67 (raw_of opt 0 []) 78
raw_opt = record { data_place = 78; head = opt_head; len = refl; there = record { ends = refl; within = omega arith; there = refl } }

pub reads_structure : ReadsRawMessage bytes structure
reads_structure = record {
  header = reads_header (1 ∷ 98 ∷ 192 ∷ 12 ∷ others);
  queries_end = 19;
  queries = reads_questions (1 ∷ 98 ∷ 192 ∷ 12 ∷ others);
  answers_end = 51;
  answers = record { records = (37, raw_alias, (51, raw_text, refl)); count_is = refl };
  authorities_end = 67;
  authorities = record { records = (67, raw_server, refl); count_is = refl };
  end = 78;
  additionals = record { records = (78, raw_opt, refl); count_is = refl };
}

-- ---- what the law says of them

-- each structure of the bytes is this one
pub only_structure : (raw : RawMessage) → ReadsRawMessage bytes raw → raw ≡ structure
only_structure raw reads = sym (raw_message_same bytes structure reads_structure raw reads)

-- its data decodes to the records of the message
pub structure_decodes : DecodesRawMessage bytes structure message
structure_decodes =
    let found : (raw : RawMessage) × (ReadsRawMessage bytes raw × DecodesRawMessage bytes raw message) = raw_message bytes message reads_message in
    subst (λ (raw : RawMessage). DecodesRawMessage bytes raw message) (only_structure found.0 found.1.0) found.1.1

-- and to no record with another TTL
pub no_other_ttl : DecodesRaw bytes (raw_of text 2 (1 ∷ 120 ∷ [])) (record text { ttl = 61 }) → ⊥
no_other_ttl decodes = let other : 60 ≡ 61 = ap (λ h. h.ttl) decodes.head in absurd (omega (arith, other))

abbrev second_data : List RawRecord → List ℕ
second_data (one ∷ two ∷ []) = two.rdata
second_data records = []

-- the second answer has no other data
pub no_other_data : ReadsRawMessage bytes (structure_with (1 ∷ 121 ∷ [])) → ⊥
no_other_data reads =
    let other : 121 ≡ 120 = ap (λ (raw : RawMessage). get_or (second_data raw.answers) 1 0) (only_structure (structure_with (1 ∷ 121 ∷ [])) reads) in
    absurd (omega (arith, other))

pub not_refused : (error : DecodeError) → RefusesRawMessage bytes error → ⊥
not_refused error refused = raw_message_not_refused bytes structure reads_structure error refused

-- ---- the message cut off

pub cut_is_refused : RefusesRawMessage cut_bytes InsufficientBytes
cut_is_refused =
    no_answers header (question ∷ []) 19 (reads_header (1 ∷ 98 ∷ 192 ∷ [])) (reads_questions (1 ∷ 98 ∷ 192 ∷ []))
    (record { front = []; middle = 19; records = refl; counted = omega arith; next = short_data (head_of alias 4) (alias_head (1 ∷ 98 ∷ 192 ∷ [])) (omega arith) })

pub cut_has_none : (raw : RawMessage) → ReadsRawMessage cut_bytes raw → ⊥
cut_has_none raw reads = raw_message_not_refused cut_bytes raw reads InsufficientBytes cut_is_refused
