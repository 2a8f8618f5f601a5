-- Why no pointer may lead into a header: two requests with one code, of which a name is read from their ids.
use Rattle.std.proofs.Common.{◌≡◌, true, ℕ, List, [], ◌∷◌, Some, None, refl, arith}
use Rattle.std.specs.Global.{Global}
use Rattle.dns_wire.specs.Reading.{at_closing, at_label, at_pointer}
use Rattle.dns_wire.specs.declared.codes.dns_class.DNSClass.TheVariants as classes
use Rattle.dns_wire.specs.declared.codes.record_type.RecordType.TheVariants as types
use Rattle.dns_data.specs.declared.rdata.RData.TheVariants as of
use Rattle.dns_records.specs.Record.{Record, ReadsRecord}
use Rattle.dns_messages.specs.Grammar.{ReadsMessage, ReadsQuestion}
use Rattle.dns_messages.specs.Header.{DecodesHeader, new_metadata}
use Rattle.dns_messages.specs.declared.header.Header.{Header}
use Rattle.dns_messages.specs.declared.message.Message.{Message}
use Rattle.dns_messages.specs.declared.message_type.MessageType.TheVariants as kinds
use Rattle.dns_messages.specs.declared.op_code.OpCode.TheVariants as ops
use Rattle.dns_messages.specs.declared.query.Query.{Query}
use Rattle.dns_tsig.specs.Found.{IsSignature}
use Rattle.dns_tsig.specs.Judge.{received_text}
use Rattle.dns_tsig.specs.TsigFields.{TsigFields}
use Rattle.dns_tsig.specs.declared.covered.Coverage.TheVariants.{Variables}
use Rattle.dns_tsig.specs.declared.found.Signature.{Signature}
use Rattle.dns_tsig_laws.proofs.RequestWitness.{key}

abbrev mac : List ℕ
mac = 247 ∷ 107 ∷ 24 ∷ 228 ∷ 235 ∷ 220 ∷ 172 ∷ 141 ∷ 226 ∷ 72 ∷ 59 ∷ 127 ∷ 81 ∷ 93 ∷ 12 ∷ 38 ∷ []

abbrev content : List ℕ
content = 8 ∷ 104 ∷ 109 ∷ 97 ∷ 99 ∷ 45 ∷ 109 ∷ 100 ∷ 53 ∷ 7 ∷ 115 ∷ 105 ∷ 103 ∷ 45 ∷ 97 ∷ 108 ∷ 103 ∷ 3 ∷ 114 ∷ 101 ∷ 103 ∷ 3 ∷ 105 ∷ 110 ∷ 116 ∷ 0 ∷ 0 ∷ 0 ∷ 0 ∷ 15 ∷ 66 ∷ 64 ∷ 1 ∷ 44 ∷ 0 ∷ 16 ∷ 247 ∷ 107 ∷ 24 ∷ 228 ∷ 235 ∷ 220 ∷ 172 ∷ 141 ∷ 226 ∷ 72 ∷ 59 ∷ 127 ∷ 81 ∷ 93 ∷ 12 ∷ 38 ∷ 1 ∷ 97 ∷ 0 ∷ 0 ∷ 0 ∷ 0 ∷ []

abbrev tsig_record : List ℕ
tsig_record = 1 ∷ 107 ∷ 0 ∷ 0 ∷ 250 ∷ 0 ∷ 255 ∷ 0 ∷ 0 ∷ 0 ∷ 0 ∷ 0 ∷ 58 ∷ content

-- a query for the SOA record of a name that is a pointer to the first byte; its id is 256 and a letter
abbrev request : ℕ → List ℕ
request letter = 1 ∷ letter ∷ 0 ∷ 0 ∷ 0 ∷ 1 ∷ 0 ∷ 0 ∷ 0 ∷ 0 ∷ 0 ∷ 1 ∷ 192 ∷ 0 ∷ 0 ∷ 6 ∷ 0 ∷ 1 ∷ tsig_record

abbrev fields : TsigFields
fields = record { algorithm = 8 ∷ 104 ∷ 109 ∷ 97 ∷ 99 ∷ 45 ∷ 109 ∷ 100 ∷ 53 ∷ 7 ∷ 115 ∷ 105 ∷ 103 ∷ 45 ∷ 97 ∷ 108 ∷ 103 ∷ 3 ∷ 114 ∷ 101 ∷ 103 ∷ 3 ∷ 105 ∷ 110 ∷ 116 ∷ 0 ∷ []; time = 1000000; fudge = 300; mac = mac; original_id = 353; error = 0; other = [] }

abbrev signature : Signature
signature = record { place = 18; name = record { items = 1 ∷ 107 ∷ 0 ∷ [] }; tsig = fields }

abbrev question : ℕ → Query
question letter = record { name = record { is_fqdn = true; labels = (letter ∷ []) ∷ [] }; query_type = types.SOA; query_class = classes.IN }

abbrev tsig : Record
tsig = record { name = record { is_fqdn = true; labels = (107 ∷ []) ∷ [] }; dns_class = classes.ANY; ttl = 0; rdata = of.Unknown types.TSIG content }

abbrev asked : ℕ → ℕ → Message
asked id letter = record {
  metadata = new_metadata id kinds.Query ops.Query;
  queries = question letter ∷ [];
  answers = [];
  authorities = [];
  additionals = [];
  edns = None;
  signature = Some tsig;
}

reads_question : (letter : ℕ) → ReadsQuestion (request letter) 12 (question letter) 18
reads_question letter = record {
  sound = record { fqdn = refl; type_fits = omega arith; type_named = refl; class_fits = omega arith; class_named = refl };
  there = (14, at_pointer {target = 0} refl (omega arith) (at_label {label = letter ∷ []} refl (omega arith) (at_closing refl)), (16, record { ends = refl; within = omega arith; there = refl }, (18, record { ends = refl; within = omega arith; there = refl }, refl)));
}

reads_tsig : (letter : ℕ) → ReadsRecord (request letter) 18 tsig 89
reads_tsig letter = record {
  len = 58;
  data_place = 31;
  head = record {
    fqdn = refl;
    type_fits = omega arith;
    type_named = refl;
    class = 255;
    class_fits = omega arith;
    class_named = refl;
    ttl_fits = omega arith;
    len_fits = omega arith;
    there = (21, at_label {label = 107 ∷ []} refl (omega arith) (at_closing refl), (23, record { ends = refl; within = omega arith; there = refl }, (25, record { ends = refl; within = omega arith; there = refl }, (29, record { ends = refl; within = omega arith; there = refl }, (31, record { ends = refl; within = omega arith; there = refl }, refl)))));
  };
  rdata = record {
    of_type = refl;
    sound = record { values = (λ e. cc, tt); fields = refl; type_fits = omega arith; type_named = refl; fits = omega arith };
    there = (89, record { ends = refl; within = omega arith; there = refl }, refl);
  };
  ends = refl;
}

abbrev header : ℕ → Header
header id = record { metadata = new_metadata id kinds.Query ops.Query; counts = record { queries = 1; answers = 0; authorities = 0; additionals = 1 } }

reads_asked : (id letter : ℕ) → DecodesHeader (request letter) 0 (header id) 12 → ReadsMessage (request letter) (asked id letter)
reads_asked id letter h = record {
  head = header id;
  header = h;
  queries_end = 18;
  queries = record { queries = (18, reads_question letter, refl); count_is = refl };
  answers_end = 18;
  answers = record { records = refl; count_is = refl; placed = tt };
  authorities_end = 18;
  authorities = record { records = refl; count_is = refl; placed = tt };
  last = tsig ∷ [];
  end = 89;
  additionals = record { records = (89, reads_tsig letter, refl); count_is = refl; placed = (refl, tt) };
  ordinary = refl;
  edns = refl;
  signature = refl;
  metadata = refl;
}

-- the first asks for `a.`
pub first_asks : ReadsMessage (request 97) (asked 353 97)
first_asks = reads_asked 353 97 (record {
  third = 0;
  fourth = 0;
  there = record { ends = refl; within = omega arith; there = refl };
  metadata = refl;
  id_fits = omega arith;
  counts_fit = record { queries = omega arith; answers = omega arith; authorities = omega arith; additionals = omega arith };
})

-- the second asks for `b.`
pub second_asks : ReadsMessage (request 98) (asked 354 98)
second_asks = reads_asked 354 98 (record {
  third = 0;
  fourth = 0;
  there = record { ends = refl; within = omega arith; there = refl };
  metadata = refl;
  id_fits = omega arith;
  counts_fit = record { queries = omega arith; answers = omega arith; authorities = omega arith; additionals = omega arith };
})

-- both have the same signature
pub is_signature : (letter : ℕ) → IsSignature (request letter) signature
is_signature letter = record {
  layout = refl;
  after_header = omega arith;
  within = omega arith;
  end = 21;
  owner = record { labels = (107 ∷ []) ∷ []; reads = at_label {label = 107 ∷ []} refl (omega arith) (at_closing refl); canonical = refl };
  fields = refl;
}

-- and one code covers both
pub same_text : (alloc : Global) → received_text (key alloc) [] (request 97) 18 fields Variables ≡ received_text (key alloc) [] (request 98) 18 fields Variables
same_text alloc = refl
