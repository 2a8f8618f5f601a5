-- Bytes that are refused are refused with one error.
use Rattle.std.proofs.Common.{◌≡◌, ℕ, ◌+◌, ◌<◌, ◌⊎◌, inl, inr, false, List, length, Some, None, refl, sym, ap, subst, ◌∙◌, arith}
use Rattle.std.specs.List.{list_any}
use Rattle.dns_wire.specs.declared.error.DecodeError.{DecodeError}
use Rattle.dns_wire.specs.declared.error.DecodeError.TheVariants.{InsufficientBytes}
use Rattle.dns_wire.proofs.ReadingLaws.{reads_not_refused, refuses_same}
use Rattle.dns_records.specs.Record.{Record, ReadsRecord}
use Rattle.dns_records.specs.internal.Records.{head_same, head_not_refused, record_same}
use Rattle.dns_records.proofs.RefusalLaws.{head_refusal_same, data_refusal_same}
use Rattle.dns_messages.specs.declared.header.Header.{Header}
use Rattle.dns_messages.specs.declared.query.Query.{Query}
use Rattle.dns_messages.specs.Header.{DecodesHeader}
use Rattle.dns_messages.specs.Section.{Setting, SectionKind, setting_of, is_opt, head_fault, AreWellPlaced, ReadsSection, RefusesNext, RefusesSection, bad_record_head, out_of_place, bad_record_data}
use Rattle.dns_messages.specs.Grammar.{ReadsQuestion, RefusesQuestion, bad_question_name, short_question, ReadsQuestions, RefusesQuestions, section_kind, additional_kind, RefusesMessage, short_header, bad_questions, bad_answers, bad_authorities, bad_additionals}
use Rattle.dns_messages.specs.internal.Headers.{header_unambiguous}
use Rattle.dns_messages.specs.internal.Questions.{question_same, question_not_refused}
use Rattle.dns_messages.proofs.FollowLaws.{front_same}
use Rattle.dns_messages.proofs.SectionLaws.{refused_here, section_same, section_not_refused}
use Rattle.dns_messages.proofs.MessageLaws.{questions_same, questions_not_refused}

-- ---- questions

question_refusal_same : (bytes : List ℕ) (place : ℕ) (error error' : DecodeError) → RefusesQuestion bytes place error → RefusesQuestion bytes place error' → error ≡ error'
question_refusal_same bytes place error error' (bad_question_name r) (bad_question_name r') = refuses_same r r'
question_refusal_same bytes place error error' (bad_question_name r) (short_question name short) = absurd (reads_not_refused name r)
question_refusal_same bytes place error error' (short_question name short) (bad_question_name r) = absurd (reads_not_refused name r)
question_refusal_same bytes place error error' (short_question name short) (short_question name' short') = refl

questions_refusal_same : (bytes : List ℕ) (place count : ℕ) (error error' : DecodeError) → RefusesQuestions bytes place count error → RefusesQuestions bytes place count error' → error ≡ error'
questions_refusal_same bytes place count error error' a b =
    let fronts = front_same (ReadsQuestion bytes) (question_same bytes) place a.front b.front a.middle b.middle a.queries b.queries
    (λ q qs end is r. question_not_refused bytes a.middle q end error r a.next)
    (λ q qs end is r. question_not_refused bytes b.middle q end error' r b.next) in
    question_refusal_same bytes a.middle error error' a.next (subst (λ (n : ℕ). RefusesQuestion bytes n error') (sym fronts.1) b.next)

-- ---- sections

next_refusal_same : (bytes : List ℕ) (s : Setting) (place : ℕ) (error error' : DecodeError) → RefusesNext bytes s place error → RefusesNext bytes s place error' → error ≡ error'
next_refusal_same bytes s place error error' (bad_record_head r) (bad_record_head r') = head_refusal_same bytes place error error' r r'
next_refusal_same bytes s place error error' (bad_record_head r) (out_of_place h {data_place} head fault) = absurd (head_not_refused bytes place h data_place error head r)
next_refusal_same bytes s place error error' (bad_record_head r) (bad_record_data h {data_place} head fault r') = absurd (head_not_refused bytes place h data_place error head r)
next_refusal_same bytes s place error error' (out_of_place h {data_place} head fault) (bad_record_head r) = absurd (head_not_refused bytes place h data_place error' head r)
next_refusal_same bytes s place error error' (out_of_place h {data_place} head fault) (out_of_place h' {data_place = data_place'} head' fault') =
    let heads = head_same bytes place h h' data_place data_place' head head' in
    let both : Some error ≡ Some error' = sym fault ∙ ap (head_fault s) heads.0 ∙ fault' in
    cc
next_refusal_same bytes s place error error' (out_of_place h {data_place} head fault) (bad_record_data h' {data_place = data_place'} head' fault' r) =
    let heads = head_same bytes place h h' data_place data_place' head head' in
    let clash : Some error ≡ None = sym fault ∙ ap (head_fault s) heads.0 ∙ fault' in
    absurd (cc)
next_refusal_same bytes s place error error' (bad_record_data h {data_place} head fault r) (bad_record_head r') = absurd (head_not_refused bytes place h data_place error' head r')
next_refusal_same bytes s place error error' (bad_record_data h {data_place} head fault r) (out_of_place h' {data_place = data_place'} head' fault') =
    let heads = head_same bytes place h h' data_place data_place' head head' in
    let clash : None ≡ Some error' = sym fault ∙ ap (head_fault s) heads.0 ∙ fault' in
    absurd (cc)
next_refusal_same bytes s place error error' (bad_record_data h {data_place} head fault r) (bad_record_data h' {data_place = data_place'} head' fault' r') =
    data_refusal_same bytes place h h' data_place data_place' error error' head head' r r'

section_refusal_same : (bytes : List ℕ) (kind : SectionKind) (place count : ℕ) (error error' : DecodeError) → RefusesSection bytes kind place count error → RefusesSection bytes kind place count error' → error ≡ error'
section_refusal_same bytes kind place count error error' a b =
    let fronts = front_same (ReadsRecord bytes) (record_same bytes) place a.front b.front a.middle b.middle a.records b.records
    (λ r rs end is reads. refused_here bytes kind count a.front a.left a.middle error r rs end (subst (AreWellPlaced kind false count) is b.placed) a.counted reads a.next)
    (λ r rs end is reads. refused_here bytes kind count b.front b.left b.middle error' r rs end (subst (AreWellPlaced kind false count) is a.placed) b.counted reads b.next) in
    let left : b.left ≡ a.left = omega (arith, a.counted, b.counted, ap (λ (rs : List Record). length rs) fronts.0) in
    next_refusal_same bytes (setting_of kind (list_any is_opt a.front) (a.left + 1)) a.middle error error' a.next
    (subst (λ (n : ℕ). RefusesNext bytes (setting_of kind (list_any is_opt a.front) (n + 1)) a.middle error') left
    (subst (λ (rs : List Record). RefusesNext bytes (setting_of kind (list_any is_opt rs) (b.left + 1)) a.middle error') (sym fronts.0)
    (subst (λ (n : ℕ). RefusesNext bytes (setting_of kind (list_any is_opt b.front) (b.left + 1)) n error') (sym fronts.1) b.next)))

-- ---- parts, one after another

-- a part is refused, or it is read and what follows it is refused
abbrev Fails : {X : Type 0} → (DecodeError → Type 0) → (X → ℕ → Type 0) → (ℕ → DecodeError → Type 0) → DecodeError → Type 0
Fails {X} Refused Reads Later error = Refused error ⊎ ((x : X) × (end : ℕ) × Reads x end × Later end error)

fails_same : {X : Type 0} (Refused : DecodeError → Type 0) (Reads : X → ℕ → Type 0) (Later : ℕ → DecodeError → Type 0) → ((error error' : DecodeError) → Refused error → Refused error' → error ≡ error')
    → ((x y : X) (end end' : ℕ) → Reads x end → Reads y end' → end ≡ end') → ((x : X) (end : ℕ) (error : DecodeError) → Reads x end → Refused error → ⊥) → ((end : ℕ) (error error' : DecodeError) → Later end error → Later end error' → error ≡ error')
    → (error error' : DecodeError) → Fails Refused Reads Later error → Fails Refused Reads Later error' → error ≡ error'
fails_same Refused Reads Later one ends not_both later error error' (inl r) (inl r') = one error error' r r'
fails_same Refused Reads Later one ends not_both later error error' (inl r) (inr s) = absurd (not_both s.0 s.1 error s.2 r)
fails_same Refused Reads Later one ends not_both later error error' (inr s) (inl r) = absurd (not_both s.0 s.1 error' s.2 r)
fails_same Refused Reads Later one ends not_both later error error' (inr s) (inr s') = later s.1 error error' s.3 (subst (λ (n : ℕ). Later n error') (sym (ends s.0 s'.0 s.1 s'.1 s.2 s'.2)) s'.3)

-- ---- messages

module _ (bytes : List ℕ) (h : Header) where
  abbrev LastFails : ℕ → DecodeError → Type 0
  LastFails place error = RefusesSection bytes (additional_kind h) place h.counts.additionals error

  abbrev AuthoritiesFail : ℕ → DecodeError → Type 0
  AuthoritiesFail place error = Fails {X = List Record} (RefusesSection bytes (section_kind h) place h.counts.authorities) (ReadsSection bytes (section_kind h) place h.counts.authorities) LastFails error

  abbrev AnswersFail : ℕ → DecodeError → Type 0
  AnswersFail place error = Fails {X = List Record} (RefusesSection bytes (section_kind h) place h.counts.answers) (ReadsSection bytes (section_kind h) place h.counts.answers) AuthoritiesFail error

  abbrev BodyFails : DecodeError → Type 0
  BodyFails error = Fails {X = List Query} (RefusesQuestions bytes 12 h.counts.queries) (ReadsQuestions bytes 12 h.counts.queries) AnswersFail error

  authorities_fail_same : (place : ℕ) (error error' : DecodeError) → AuthoritiesFail place error → AuthoritiesFail place error' → error ≡ error'
  authorities_fail_same place =
      fails_same (RefusesSection bytes (section_kind h) place h.counts.authorities) (ReadsSection bytes (section_kind h) place h.counts.authorities) LastFails
      (section_refusal_same bytes (section_kind h) place h.counts.authorities)
      (λ rs rs' end end' r r'. (section_same bytes (section_kind h) place h.counts.authorities rs rs' end end' r r').1)
      (section_not_refused bytes (section_kind h) place h.counts.authorities)
      (λ end. section_refusal_same bytes (additional_kind h) end h.counts.additionals)

  answers_fail_same : (place : ℕ) (error error' : DecodeError) → AnswersFail place error → AnswersFail place error' → error ≡ error'
  answers_fail_same place =
      fails_same (RefusesSection bytes (section_kind h) place h.counts.answers) (ReadsSection bytes (section_kind h) place h.counts.answers) AuthoritiesFail
      (section_refusal_same bytes (section_kind h) place h.counts.answers)
      (λ rs rs' end end' r r'. (section_same bytes (section_kind h) place h.counts.answers rs rs' end end' r r').1)
      (section_not_refused bytes (section_kind h) place h.counts.answers)
      authorities_fail_same

  body_fails_same : (error error' : DecodeError) → BodyFails error → BodyFails error' → error ≡ error'
  body_fails_same =
      fails_same (RefusesQuestions bytes 12 h.counts.queries) (ReadsQuestions bytes 12 h.counts.queries) AnswersFail
      (questions_refusal_same bytes 12 h.counts.queries)
      (λ qs qs' end end' r r'. (questions_same bytes 12 h.counts.queries qs qs' end end' r r').1)
      (questions_not_refused bytes 12 h.counts.queries)
      answers_fail_same

-- the header is short, or it is read and what follows it is refused
abbrev MessageFails : List ℕ → DecodeError → Type 0
MessageFails bytes error = ((error ≡ InsufficientBytes) × (length bytes < 12)) ⊎ ((h : Header) × DecodesHeader bytes 0 h 12 × BodyFails bytes h error)

fails : (bytes : List ℕ) (error : DecodeError) → RefusesMessage bytes error → MessageFails bytes error
fails bytes error (short_header short) = inl (refl, short)
fails bytes error (bad_questions h header r) = inr (h, header, inl r)
fails bytes error (bad_answers h qs queries_end header queries r) = inr (h, header, inr (qs, queries_end, queries, inl r))
fails bytes error (bad_authorities h qs answers queries_end answers_end header queries answered r) =
    inr (h, header, inr (qs, queries_end, queries, inr (answers, answers_end, answered, inl r)))
fails bytes error (bad_additionals h qs answers authorities queries_end answers_end authorities_end header queries answered authorized r) =
    inr (h, header, inr (qs, queries_end, queries, inr (answers, answers_end, answered, inr (authorities, authorities_end, authorized, r))))

message_fails_same : (bytes : List ℕ) (error error' : DecodeError) → MessageFails bytes error → MessageFails bytes error' → error ≡ error'
message_fails_same bytes error error' (inl s) (inl s') = s.0 ∙ sym s'.0
message_fails_same bytes error error' (inl s) (inr r) = absurd (omega (arith, s.1, r.1.there.within))
message_fails_same bytes error error' (inr r) (inl s) = absurd (omega (arith, s.1, r.1.there.within))
message_fails_same bytes error error' (inr r) (inr r') =
    body_fails_same bytes r.0 error error' r.2 (subst (λ (h : Header). BodyFails bytes h error') (sym (header_unambiguous bytes 0 r.0 r'.0 12 12 r.1 r'.1).0) r'.2)

pub message_refusal_same : (bytes : List ℕ) (error error' : DecodeError) → RefusesMessage bytes error → RefusesMessage bytes error' → error ≡ error'
message_refusal_same bytes error error' r r' = message_fails_same bytes error error' (fails bytes error r) (fails bytes error' r')
