-- Bytes decode to one question at most, and what decodes is not refused.
use Rattle.std.proofs.Common.{◌≡◌, ℕ, List, refl, ap, ◌∙◌, arith, length-drop}
use Rattle.std.specs.Int.{w16, to_be_bytes}
use Rattle.dns_wire.specs.declared.codes.record_type.RecordType.{RecordType}
use Rattle.dns_wire.specs.declared.codes.dns_class.DNSClass.{DNSClass}
use Rattle.dns_wire.specs.codes.RecordType.{type_number}
use Rattle.dns_wire.specs.codes.DNSClass.{class_number}
use Rattle.dns_wire.specs.declared.error.DecodeError.{DecodeError}
use Rattle.dns_wire.proofs.ReadingLaws.{reads_same, reads_not_refused}
use Rattle.dns_names.specs.Name.{DomainName}
use Rattle.dns_records.specs.internal.Pieces.{pieces_same, same_domain, same_type, same_class}
use Rattle.dns_messages.specs.declared.query.Query.{Query}
use Rattle.dns_messages.specs.Question.{question_pieces}
use Rattle.dns_messages.specs.Grammar.{ReadsQuestion, RefusesQuestion, bad_question_name, short_question}

-- at most one question, and one end
pub question_same : (bytes : List ℕ) (place : ℕ) (a b : Query) (end end' : ℕ) → ReadsQuestion bytes place a end
    → ReadsQuestion bytes place b end' → (a ≡ b) × (end ≡ end')
question_same bytes place a b end end' r r' =
    let same = pieces_same bytes place end end' (question_pieces a) (question_pieces b) (refl, (refl, tt)) r.there r'.there in
    let e : question_pieces a ≡ question_pieces b = same.0 in
    let labels : a.name.labels ≡ b.name.labels = cc in
    let types : to_be_bytes w16 (type_number a.query_type) ≡ to_be_bytes w16 (type_number b.query_type) = cc in
    let classes : to_be_bytes w16 (class_number a.query_class) ≡ to_be_bytes w16 (class_number b.query_class) = cc in
    let s = r.sound in
    let s' = r'.sound in (
      ap (λ (n : DomainName). record a { name = n }) (same_domain a.name b.name s.fqdn s'.fqdn labels)
          ∙ ap (λ (t : RecordType). record a { name = b.name; query_type = t }) (same_type a.query_type b.query_type s.type_fits s'.type_fits s.type_named s'.type_named types)
          ∙ ap (λ (k : DNSClass). record b { query_class = k }) (same_class a.query_class b.query_class s.class_fits s'.class_fits s.class_named s'.class_named classes),
      same.1,
    )

-- what decodes to a question is not refused
pub question_not_refused : (bytes : List ℕ) (place : ℕ) (q : Query) (end : ℕ) (error : DecodeError)
    → ReadsQuestion bytes place q end → RefusesQuestion bytes place error → ⊥
question_not_refused bytes place q end error r (bad_question_name refused) = reads_not_refused r.there.1 refused
question_not_refused bytes place q end error r (short_question {labels} {name_end} name short) =
    let same = reads_same r.there.1 name in
    omega (arith, same.1, r.there.2.1.ends, r.there.2.2.1.ends, r.there.2.2.1.within, length-drop name_end bytes, short)
