-- Bytes decode to one message at most, and what decodes is not refused.
use Rattle.std.proofs.Common.{◌≡◌, ℕ, ◌<◌, List, [], ◌∷◌, ◌++◌, length, Option, sym, ap, subst, ◌∙◌, arith, length-append}
use Rattle.dns_wire.specs.Decodable.{Follow}
use Rattle.dns_wire.specs.declared.error.DecodeError.{DecodeError}
use Rattle.dns_records.specs.Record.{Record}
use Rattle.dns_messages.specs.declared.edns.Edns.{Edns}
use Rattle.dns_messages.specs.declared.header.Metadata.{Metadata}
use Rattle.dns_messages.specs.declared.header.Header.{Header}
use Rattle.dns_messages.specs.declared.query.Query.{Query}
use Rattle.dns_messages.specs.declared.message.Message.{Message}
use Rattle.dns_messages.specs.Header.{DecodesHeader}
use Rattle.dns_messages.specs.internal.Headers.{header_unambiguous}
use Rattle.dns_messages.specs.Section.{ordinary_records, edns_in, signature_in, ReadsSection}
use Rattle.dns_messages.specs.Grammar.{ReadsQuestion, RefusesQuestion, ReadsQuestions, RefusesQuestions, section_kind, additional_kind, extended, ReadsMessage, RefusesMessage, short_header, bad_questions, bad_answers, bad_authorities, bad_additionals}
use Rattle.dns_messages.specs.internal.Questions.{question_same, question_not_refused}
use Rattle.dns_messages.proofs.FollowLaws.{follow_same, follow_rest}
use Rattle.dns_messages.proofs.SectionLaws.{section_same, section_not_refused}

-- ---- questions

pub questions_same : (bytes : List ℕ) (place count : ℕ) (xs ys : List Query) (end end' : ℕ) → ReadsQuestions bytes place count xs end → ReadsQuestions bytes place count ys end' → (xs ≡ ys) × (end ≡ end')
questions_same bytes place count xs ys end end' a b =
    follow_same (ReadsQuestion bytes) (question_same bytes) place xs ys end end' (a.count_is ∙ sym b.count_is) a.queries b.queries

refused_at : (bytes : List ℕ) (front : List Query) (middle : ℕ) (error : DecodeError) (rest : List Query) (end : ℕ) → length front < length (front ++ rest) → Follow (ReadsQuestion bytes) middle rest end → RefusesQuestion bytes middle error → ⊥
refused_at bytes front middle error [] end less follow refused = omega (arith, less, length-append front [])
refused_at bytes front middle error (q ∷ rest) end less follow refused = question_not_refused bytes middle q follow.0 error follow.1 refused

pub questions_not_refused : (bytes : List ℕ) (place count : ℕ) (qs : List Query) (end : ℕ) (error : DecodeError) → ReadsQuestions bytes place count qs end → RefusesQuestions bytes place count error → ⊥
questions_not_refused bytes place count qs end error reads refuses =
    let less : length refuses.front < length qs = omega (arith, refuses.counted, reads.count_is) in
    let rest = follow_rest (ReadsQuestion bytes) (question_same bytes) place refuses.front qs refuses.middle end (omega (arith, less)) refuses.queries reads.queries in
    refused_at bytes refuses.front refuses.middle error rest.0 end (subst (λ (l : List Query). length refuses.front < length l) rest.1 less) rest.2 refuses.next

-- ---- messages

pub message_same : (bytes : List ℕ) (a b : Message) → ReadsMessage bytes a → ReadsMessage bytes b → a ≡ b
message_same bytes a b r r' =
    let h : Header = r.head in
    let heads : r.head ≡ r'.head = (header_unambiguous bytes 0 r.head r'.head 12 12 r.header r'.header).0 in
    let q = questions_same bytes 12 h.counts.queries a.queries b.queries r.queries_end r'.queries_end r.queries
    (subst (λ (x : Header). ReadsQuestions bytes 12 x.counts.queries b.queries r'.queries_end) (sym heads) r'.queries) in
    let an = section_same bytes (section_kind h) r.queries_end h.counts.answers a.answers b.answers r.answers_end r'.answers_end r.answers
    (subst (λ (n : ℕ). ReadsSection bytes (section_kind h) n h.counts.answers b.answers r'.answers_end) (sym q.1) (subst (λ (x : Header). ReadsSection bytes (section_kind x) r'.queries_end x.counts.answers b.answers r'.answers_end) (sym heads) r'.answers)) in
    let au = section_same bytes (section_kind h) r.answers_end h.counts.authorities a.authorities b.authorities r.authorities_end r'.authorities_end r.authorities
    (subst (λ (n : ℕ). ReadsSection bytes (section_kind h) n h.counts.authorities b.authorities r'.authorities_end) (sym an.1) (subst (λ (x : Header). ReadsSection bytes (section_kind x) r'.answers_end x.counts.authorities b.authorities r'.authorities_end) (sym heads) r'.authorities)) in
    let ad = section_same bytes (additional_kind h) r.authorities_end h.counts.additionals r.last r'.last r.end r'.end r.additionals
    (subst (λ (n : ℕ). ReadsSection bytes (additional_kind h) n h.counts.additionals r'.last r'.end) (sym au.1) (subst (λ (x : Header). ReadsSection bytes (additional_kind x) r'.authorities_end x.counts.additionals r'.last r'.end) (sym heads) r'.additionals)) in
    let edns_is : a.edns ≡ b.edns = r.edns ∙ ap edns_in ad.0 ∙ sym r'.edns in
    let signature_is : a.signature ≡ b.signature = r.signature ∙ ap signature_in ad.0 ∙ sym r'.signature in
    let ordinary_is : a.additionals ≡ b.additionals = r.ordinary ∙ ap ordinary_records ad.0 ∙ sym r'.ordinary in
    let metadata_is : a.metadata ≡ b.metadata = r.metadata ∙ ap (λ (e : Option Edns). extended e r.head.metadata) edns_is ∙ ap (λ (x : Header). extended b.edns x.metadata) heads ∙ sym r'.metadata in
    ap (λ (m : Metadata). record a { metadata = m }) metadata_is
    ∙ ap (λ (l : List Query). record a { metadata = b.metadata; queries = l }) q.0
    ∙ ap (λ (l : List Record). record a { metadata = b.metadata; queries = b.queries; answers = l }) an.0
    ∙ ap (λ (l : List Record). record b { authorities = l; additionals = a.additionals; edns = a.edns; signature = a.signature }) au.0
    ∙ ap (λ (l : List Record). record b { additionals = l; edns = a.edns; signature = a.signature }) ordinary_is
    ∙ ap (λ (e : Option Edns). record b { edns = e; signature = a.signature }) edns_is
    ∙ ap (λ (s : Option Record). record b { signature = s }) signature_is

-- the parts of a message that is read, from another header and from places that are found again
module _ (bytes : List ℕ) (m : Message) (r : ReadsMessage bytes m) where
  head_is : (h : Header) → DecodesHeader bytes 0 h 12 → r.head ≡ h
  head_is h header = (header_unambiguous bytes 0 r.head h 12 12 r.header header).0

  queries_from : (h : Header) → DecodesHeader bytes 0 h 12 → ReadsQuestions bytes 12 h.counts.queries m.queries r.queries_end
  queries_from h header = subst (λ (x : Header). ReadsQuestions bytes 12 x.counts.queries m.queries r.queries_end) (head_is h header) r.queries

  queries_end_is : (h : Header) (qs : List Query) (queries_end : ℕ) → DecodesHeader bytes 0 h 12 → ReadsQuestions bytes 12 h.counts.queries qs queries_end → r.queries_end ≡ queries_end
  queries_end_is h qs queries_end header queries = (questions_same bytes 12 h.counts.queries m.queries qs r.queries_end queries_end (queries_from h header) queries).1

  answers_from : (h : Header) (queries_end : ℕ) → DecodesHeader bytes 0 h 12 → r.queries_end ≡ queries_end → ReadsSection bytes (section_kind h) queries_end h.counts.answers m.answers r.answers_end
  answers_from h queries_end header e = subst (λ (n : ℕ). ReadsSection bytes (section_kind h) n h.counts.answers m.answers r.answers_end) e (subst (λ (x : Header). ReadsSection bytes (section_kind x) r.queries_end x.counts.answers m.answers r.answers_end) (head_is h header) r.answers)

  authorities_from : (h : Header) (answers_end : ℕ) → DecodesHeader bytes 0 h 12 → r.answers_end ≡ answers_end → ReadsSection bytes (section_kind h) answers_end h.counts.authorities m.authorities r.authorities_end
  authorities_from h answers_end header e = subst (λ (n : ℕ). ReadsSection bytes (section_kind h) n h.counts.authorities m.authorities r.authorities_end) e (subst (λ (x : Header). ReadsSection bytes (section_kind x) r.answers_end x.counts.authorities m.authorities r.authorities_end) (head_is h header) r.authorities)

  additionals_from : (h : Header) (authorities_end : ℕ) → DecodesHeader bytes 0 h 12 → r.authorities_end ≡ authorities_end → ReadsSection bytes (additional_kind h) authorities_end h.counts.additionals r.last r.end
  additionals_from h authorities_end header e = subst (λ (n : ℕ). ReadsSection bytes (additional_kind h) n h.counts.additionals r.last r.end) e (subst (λ (x : Header). ReadsSection bytes (additional_kind x) r.authorities_end x.counts.additionals r.last r.end) (head_is h header) r.additionals)

  pub message_not_refused : (error : DecodeError) → RefusesMessage bytes error → ⊥
  message_not_refused error (short_header short) = omega (arith, short, r.header.there.within)
  message_not_refused error (bad_questions h header refused) = questions_not_refused bytes 12 h.counts.queries m.queries r.queries_end error (queries_from h header) refused
  message_not_refused error (bad_answers h qs queries_end header queries refused) =
      section_not_refused bytes (section_kind h) queries_end h.counts.answers m.answers r.answers_end error (answers_from h queries_end header (queries_end_is h qs queries_end header queries)) refused
  message_not_refused error (bad_authorities h qs answers queries_end answers_end header queries answered refused) =
      let mine = answers_from h queries_end header (queries_end_is h qs queries_end header queries) in
      let here = (section_same bytes (section_kind h) queries_end h.counts.answers m.answers answers r.answers_end answers_end mine answered).1 in
      section_not_refused bytes (section_kind h) answers_end h.counts.authorities m.authorities r.authorities_end error (authorities_from h answers_end header here) refused
  message_not_refused error (bad_additionals h qs answers authorities queries_end answers_end authorities_end header queries answered authorized refused) =
      let mine = answers_from h queries_end header (queries_end_is h qs queries_end header queries) in
      let here = (section_same bytes (section_kind h) queries_end h.counts.answers m.answers answers r.answers_end answers_end mine answered).1 in
      let next = authorities_from h answers_end header here in
      let there = (section_same bytes (section_kind h) answers_end h.counts.authorities m.authorities authorities r.authorities_end authorities_end next authorized).1 in
      section_not_refused bytes (additional_kind h) authorities_end h.counts.additionals r.last r.end error (additionals_from h authorities_end header there) refused
