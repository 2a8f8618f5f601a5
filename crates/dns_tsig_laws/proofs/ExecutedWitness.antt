-- A request that meets the premises of the laws, and is executed: an update of the zone `t.` that adds an alias, by names with pointers. It
-- was signed with the key `k.`, by HMAC-MD5 of a secret of four bytes, and has another id when it arrives.
use Rattle.std.proofs.Common.{◌≡◌, true, ℕ, List, [], ◌∷◌, Some, None, Ok, refl, arith}
use Rattle.std.specs.Global.{Global}
use Rattle.md5.specs.Md5.{block_words, rounds, compress, hash_after, digest_bytes, md5}
use Rattle.dns_wire.proofs.ElementLaws.{element-label}
use Rattle.dns_wire.specs.Element.{Label, element}
use Rattle.dns_wire.specs.Reading.{at_closing, at_label, at_pointer}
use Rattle.dns_wire.specs.declared.codes.dns_class.DNSClass.TheVariants as classes
use Rattle.dns_wire.specs.declared.codes.record_type.RecordType.TheVariants as types
use Rattle.dns_names.specs.Name.{DomainName}
use Rattle.dns_data.specs.declared.rdata.RData.TheVariants as of
use Rattle.dns_records.specs.Record.{Record, ReadsRecord}
use Rattle.dns_messages.specs.Grammar.{ReadsMessage, ReadsQuestion}
use Rattle.dns_messages.specs.Header.{new_metadata}
use Rattle.dns_messages.specs.declared.header.Header.{Header}
use Rattle.dns_messages.specs.declared.message.Message.{Message}
use Rattle.dns_messages.specs.declared.message_type.MessageType.TheVariants as kinds
use Rattle.dns_messages.specs.declared.op_code.OpCode.TheVariants as ops
use Rattle.dns_messages.specs.declared.query.Query.{Query}
use Rattle.dns_tsig.specs.Found.{IsSignature}
use Rattle.dns_tsig.specs.Sign.{IsSigned}
use Rattle.dns_tsig.specs.TsigFields.{TsigFields}
use Rattle.dns_tsig.specs.Verify.{verdict_of}
use Rattle.dns_tsig.specs.declared.covered.Coverage.TheVariants.{Variables}
use Rattle.dns_tsig.specs.declared.found.Found.TheVariants as found
use Rattle.dns_tsig.specs.declared.found.Signature.{Signature}
use Rattle.dns_tsig.specs.declared.verify.Verdict.TheVariants as verdicts
use Rattle.dns_tsig_laws.proofs.CodeLaws.{of_holder}
use Rattle.dns_tsig_laws.proofs.ExecutedLaws.{executed_is}
use Rattle.dns_tsig_laws.proofs.FoundLaws.{found_decoded}
use Rattle.dns_tsig_laws.proofs.RequestWitness.{key}
use Rattle.dns_tsig_laws.specs.Code.{IsOfHolder}
use Rattle.dns_tsig_laws.specs.Executed.{DecodesApart, IsDecodedAs, IsExecutionOf}

-- ---- the bytes

-- what is after the label `b` of the target of an alias, after the label `a` of its owner, and after the label `t` of the zone
abbrev after_b : List ℕ → List ℕ
after_b more = 192 ∷ 12 ∷ more

abbrev after_a : List ℕ → List ℕ
after_a more = 192 ∷ 12 ∷ 0 ∷ 5 ∷ 0 ∷ 1 ∷ 0 ∷ 0 ∷ 0 ∷ 60 ∷ 0 ∷ 4 ∷ 1 ∷ 98 ∷ after_b more

abbrev after_t : List ℕ → List ℕ
after_t more = 0 ∷ 0 ∷ 6 ∷ 0 ∷ 1 ∷ 1 ∷ 97 ∷ after_a more

-- the zone `t.`, and the record `a.t. 60 IN CNAME b.t.`
abbrev sections : List ℕ → List ℕ
sections more = 1 ∷ 116 ∷ after_t more

abbrev request : List ℕ
request = 0 ∷ 7 ∷ 40 ∷ 0 ∷ 0 ∷ 1 ∷ 0 ∷ 0 ∷ 0 ∷ 1 ∷ 0 ∷ 0 ∷ sections []

abbrev mac : List ℕ
mac = 187 ∷ 113 ∷ 115 ∷ 231 ∷ 129 ∷ 196 ∷ 38 ∷ 168 ∷ 151 ∷ 31 ∷ 165 ∷ 28 ∷ 1 ∷ 234 ∷ 54 ∷ 196 ∷ []

abbrev content : List ℕ
content = 8 ∷ 104 ∷ 109 ∷ 97 ∷ 99 ∷ 45 ∷ 109 ∷ 100 ∷ 53 ∷ 7 ∷ 115 ∷ 105 ∷ 103 ∷ 45 ∷ 97 ∷ 108 ∷ 103 ∷ 3 ∷ 114 ∷ 101 ∷ 103 ∷ 3 ∷ 105 ∷ 110 ∷ 116 ∷ 0 ∷ 0 ∷ 0 ∷ 0 ∷ 15 ∷ 66 ∷ 64 ∷ 1 ∷ 44 ∷ 0 ∷ 16 ∷ 187 ∷ 113 ∷ 115 ∷ 231 ∷ 129 ∷ 196 ∷ 38 ∷ 168 ∷ 151 ∷ 31 ∷ 165 ∷ 28 ∷ 1 ∷ 234 ∷ 54 ∷ 196 ∷ 0 ∷ 7 ∷ 0 ∷ 0 ∷ 0 ∷ 0 ∷ []

abbrev tsig_record : List ℕ
tsig_record = 1 ∷ 107 ∷ 0 ∷ 0 ∷ 250 ∷ 0 ∷ 255 ∷ 0 ∷ 0 ∷ 0 ∷ 0 ∷ 0 ∷ 58 ∷ content

-- the request with an id, and with its TSIG record
abbrev signed_with : ℕ → List ℕ
signed_with id = 0 ∷ id ∷ 40 ∷ 0 ∷ 0 ∷ 1 ∷ 0 ∷ 0 ∷ 0 ∷ 1 ∷ 0 ∷ 1 ∷ sections tsig_record

abbrev fields : TsigFields
fields = record { algorithm = 8 ∷ 104 ∷ 109 ∷ 97 ∷ 99 ∷ 45 ∷ 109 ∷ 100 ∷ 53 ∷ 7 ∷ 115 ∷ 105 ∷ 103 ∷ 45 ∷ 97 ∷ 108 ∷ 103 ∷ 3 ∷ 114 ∷ 101 ∷ 103 ∷ 3 ∷ 105 ∷ 110 ∷ 116 ∷ 0 ∷ []; time = 1000000; fudge = 300; mac = mac; original_id = 7; error = 0; other = [] }

abbrev signature : Signature
signature = record { place = 37; name = record { items = 1 ∷ 107 ∷ 0 ∷ [] }; tsig = fields }

-- ---- the messages

abbrev name_of : List (List ℕ) → DomainName
name_of labels = record { is_fqdn = true; labels = labels }

abbrev question : Query
question = record { name = name_of ((116 ∷ []) ∷ []); query_type = types.SOA; query_class = classes.IN }

abbrev alias : Record
alias = record {
  name = name_of ((97 ∷ []) ∷ (116 ∷ []) ∷ []);
  dns_class = classes.IN;
  ttl = 60;
  rdata = of.CNAME (record { 0 = name_of ((98 ∷ []) ∷ (116 ∷ []) ∷ []) });
}

abbrev tsig : Record
tsig = record { name = name_of ((107 ∷ []) ∷ []); dns_class = classes.ANY; ttl = 0; rdata = of.Unknown types.TSIG content }

-- what was signed
abbrev update : Message
update = record {
  metadata = new_metadata 7 kinds.Query ops.Update;
  queries = question ∷ [];
  answers = [];
  authorities = alias ∷ [];
  additionals = [];
  edns = None;
  signature = None;
}

-- what is executed
abbrev executed : Message
executed = record update { metadata = new_metadata 9 kinds.Query ops.Update; signature = Some tsig }

-- ---- what is decoded

-- a label of one letter, whatever follows
one_letter : (letter : ℕ) (more : List ℕ) → element (1 ∷ letter ∷ more) ≡ Ok (Label (letter ∷ []))
one_letter letter more = element-label (letter ∷ []) more (record { some = omega arith; most = omega arith })

reads_question : (a0 a1 a2 a3 a4 a5 a6 a7 a8 a9 a10 a11 : ℕ) (more : List ℕ) → ReadsQuestion (a0 ∷ a1 ∷ a2 ∷ a3 ∷ a4 ∷ a5 ∷ a6 ∷ a7 ∷ a8 ∷ a9 ∷ a10 ∷ a11 ∷ sections more) 12 question 19
reads_question a0 a1 a2 a3 a4 a5 a6 a7 a8 a9 a10 a11 more = record {
  sound = record { fqdn = refl; type_fits = omega arith; type_named = refl; class_fits = omega arith; class_named = refl };
  there = (15, at_label {label = 116 ∷ []} (one_letter 116 (after_t more)) (omega arith) (at_closing refl), (17, record { ends = refl; within = omega arith; there = refl }, (19, record { ends = refl; within = omega arith; there = refl }, refl)));
}

reads_alias : (a0 a1 a2 a3 a4 a5 a6 a7 a8 a9 a10 a11 : ℕ) (more : List ℕ) → ReadsRecord (a0 ∷ a1 ∷ a2 ∷ a3 ∷ a4 ∷ a5 ∷ a6 ∷ a7 ∷ a8 ∷ a9 ∷ a10 ∷ a11 ∷ sections more) 19 alias 37
reads_alias a0 a1 a2 a3 a4 a5 a6 a7 a8 a9 a10 a11 more = record {
  len = 4;
  data_place = 33;
  head = record {
    fqdn = refl;
    type_fits = omega arith;
    type_named = refl;
    class = 1;
    class_fits = omega arith;
    class_named = refl;
    ttl_fits = omega arith;
    len_fits = omega arith;
    there = (23, at_label {label = 97 ∷ []} (one_letter 97 (after_a more)) (omega arith) (at_pointer {target = 12} refl (omega arith) (at_label {label = 116 ∷ []} (one_letter 116 (after_t more)) (omega arith) (at_closing refl))), (25, record { ends = refl; within = omega arith; there = refl }, (27, record { ends = refl; within = omega arith; there = refl }, (31, record { ends = refl; within = omega arith; there = refl }, (33, record { ends = refl; within = omega arith; there = refl }, refl)))));
  };
  rdata = record {
    of_type = refl;
    sound = record { values = (refl, tt); fields = refl; type_fits = omega arith; type_named = refl; fits = omega arith };
    there = (37, at_label {label = 98 ∷ []} (one_letter 98 (after_b more)) (omega arith) (at_pointer {target = 12} refl (omega arith) (at_label {label = 116 ∷ []} (one_letter 116 (after_t more)) (omega arith) (at_closing refl))), refl);
  };
  ends = refl;
}

reads_tsig : ReadsRecord (signed_with 9) 37 tsig 108
reads_tsig = record {
  len = 58;
  data_place = 50;
  head = record {
    fqdn = refl;
    type_fits = omega arith;
    type_named = refl;
    class = 255;
    class_fits = omega arith;
    class_named = refl;
    ttl_fits = omega arith;
    len_fits = omega arith;
    there = (40, at_label {label = 107 ∷ []} refl (omega arith) (at_closing refl), (42, record { ends = refl; within = omega arith; there = refl }, (44, record { ends = refl; within = omega arith; there = refl }, (48, record { ends = refl; within = omega arith; there = refl }, (50, record { ends = refl; within = omega arith; there = refl }, refl)))));
  };
  rdata = record {
    of_type = refl;
    sound = record { values = (λ e. cc, tt); fields = refl; type_fits = omega arith; type_named = refl; fits = omega arith };
    there = (108, record { ends = refl; within = omega arith; there = refl }, refl);
  };
  ends = refl;
}

-- the header of the update, with an id and a number of additional records
abbrev header : ℕ → ℕ → Header
header id additionals = record {
  metadata = new_metadata id kinds.Query ops.Update;
  counts = record { queries = 1; answers = 0; authorities = 1; additionals = additionals };
}

reads_update : ReadsMessage request update
reads_update = record {
  head = header 7 0;
  header = record {
    third = 40;
    fourth = 0;
    there = record { ends = refl; within = omega arith; there = refl };
    metadata = refl;
    id_fits = omega arith;
    counts_fit = record { queries = omega arith; answers = omega arith; authorities = omega arith; additionals = omega arith };
  };
  queries_end = 19;
  queries = record { queries = (19, reads_question 0 7 40 0 0 1 0 0 0 1 0 0 [], refl); count_is = refl };
  answers_end = 19;
  answers = record { records = refl; count_is = refl; placed = tt };
  authorities_end = 37;
  authorities = record { records = (37, reads_alias 0 7 40 0 0 1 0 0 0 1 0 0 [], refl); count_is = refl; placed = (refl, tt) };
  last = [];
  end = 37;
  additionals = record { records = refl; count_is = refl; placed = tt };
  ordinary = refl;
  edns = refl;
  signature = refl;
  metadata = refl;
}

decodes_apart : DecodesApart request update
unfolding reads_update
decodes_apart = record {
  reads = reads_update;
  whole = refl;
  queries = (19, reads_question 64 64 64 64 64 64 64 64 64 64 64 64 [], refl);
  answers = refl;
  authorities = (37, reads_alias 64 64 64 64 64 64 64 64 64 64 64 64 [], refl);
  last = refl;
}

reads_executed : ReadsMessage (signed_with 9) executed
reads_executed = record {
  head = header 9 1;
  header = record {
    third = 40;
    fourth = 0;
    there = record { ends = refl; within = omega arith; there = refl };
    metadata = refl;
    id_fits = omega arith;
    counts_fit = record { queries = omega arith; answers = omega arith; authorities = omega arith; additionals = omega arith };
  };
  queries_end = 19;
  queries = record { queries = (19, reads_question 0 9 40 0 0 1 0 0 0 1 0 1 tsig_record, refl); count_is = refl };
  answers_end = 19;
  answers = record { records = refl; count_is = refl; placed = tt };
  authorities_end = 37;
  authorities = record { records = (37, reads_alias 0 9 40 0 0 1 0 0 0 1 0 1 tsig_record, refl); count_is = refl; placed = (refl, tt) };
  last = tsig ∷ [];
  end = 108;
  additionals = record { records = (108, reads_tsig, refl); count_is = refl; placed = (refl, tt) };
  ordinary = refl;
  edns = refl;
  signature = refl;
  metadata = refl;
}

-- ---- what was signed, and found

is_signed : (alloc : Global) → IsSigned (key alloc) [] request Variables 1000000 300 0 [] mac (signed_with 7)
unfolding block_words rounds compress hash_after digest_bytes md5
is_signed alloc = record { code_is = refl; message_is = refl }

found_signature : IsSignature (signed_with 9) signature
found_signature = record {
  layout = refl;
  after_header = omega arith;
  within = omega arith;
  end = 40;
  owner = record { labels = (107 ∷ []) ∷ []; reads = at_label {label = 107 ∷ []} refl (omega arith) (at_closing refl); canonical = refl };
  fields = refl;
}

-- it is verified, although its id has changed
pub verified : (alloc : Global) → verdict_of (key alloc ∷ []) (signed_with 9) (found.Signed signature) 1000200 ≡ verdicts.Verified 0
unfolding block_words rounds compress hash_after digest_bytes md5
verified alloc = refl

-- a holder of the key signed it
pub of_a_holder : (alloc : Global) → IsOfHolder (key alloc ∷ []) 0 (signed_with 9) signature 1000200
of_a_holder alloc = of_holder (key alloc ∷ []) (signed_with 9) signature 1000200 0 (verified alloc)

-- what is executed is the update that was signed
pub execution : (alloc : Global) → IsExecutionOf update executed
execution alloc = executed_is (key alloc) [] request 1000000 300 0 [] (signed_with 9) signature update executed found_signature refl decodes_apart reads_executed

-- its TSIG record is the last that is decoded
pub decoded : IsDecodedAs (signed_with 9) signature executed
decoded = found_decoded (signed_with 9) signature executed found_signature reads_executed
