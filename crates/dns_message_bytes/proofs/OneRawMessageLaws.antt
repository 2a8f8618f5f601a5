-- Bytes have one message at most whose record data is not decoded, and then they are not refused.
use Rattle.std.proofs.Common.{◌≡◌, ℕ, ◌<◌, List, [], ◌∷◌, ◌++◌, length, sym, ap, subst, ◌∙◌, arith, length-append}
use Rattle.dns_wire.specs.Decodable.{Follow}
use Rattle.dns_wire.specs.declared.error.DecodeError.{DecodeError}
use Rattle.dns_messages.specs.declared.header.Header.{Header}
use Rattle.dns_messages.specs.declared.query.Query.{Query}
use Rattle.dns_messages.specs.Header.{DecodesHeader}
use Rattle.dns_messages.specs.Grammar.{ReadsQuestions}
use Rattle.dns_messages.specs.internal.Headers.{header_unambiguous}
use Rattle.dns_messages.proofs.FollowLaws.{follow_same, follow_rest}
use Rattle.dns_messages.proofs.MessageLaws.{questions_same, questions_not_refused}
use Rattle.dns_message_bytes.specs.view.RecordView.{RawRecord, ReadsRaw, RefusesRaw}
use Rattle.dns_message_bytes.specs.view.RecordViews.{ReadsRecords, RefusesRecords}
use Rattle.dns_message_bytes.specs.view.MessageView.{RawMessage, ReadsRawMessage, RefusesRawMessage, no_header, no_queries, no_answers, no_authorities, no_additionals}
use Rattle.dns_message_bytes.proofs.RawRecordLaws.{raw_same, raw_not_refused}

-- ---- sections

records_same : (bytes : List ℕ) (place count : ℕ) (xs ys : List RawRecord) (end end' : ℕ) → ReadsRecords bytes place count xs end → ReadsRecords bytes place count ys end' → (xs ≡ ys) × (end ≡ end')
records_same bytes place count xs ys end end' a b =
    follow_same (ReadsRaw bytes) (raw_same bytes) place xs ys end end' (a.count_is ∙ sym b.count_is) a.records b.records

refused_at : (bytes : List ℕ) (front : List RawRecord) (middle : ℕ) (error : DecodeError) (rest : List RawRecord) (end : ℕ) → length front < length (front ++ rest) → Follow (ReadsRaw bytes) middle rest end → RefusesRaw bytes middle error → ⊥
refused_at bytes front middle error [] end less follow refused = omega (arith, less, length-append front [])
refused_at bytes front middle error (r ∷ rest) end less follow refused = raw_not_refused bytes middle r follow.0 error follow.1 refused

records_not_refused : (bytes : List ℕ) (place count : ℕ) (rs : List RawRecord) (end : ℕ) (error : DecodeError) → ReadsRecords bytes place count rs end → RefusesRecords bytes place count error → ⊥
records_not_refused bytes place count rs end error reads refuses =
    let less : length refuses.front < length rs = omega (arith, refuses.counted, reads.count_is) in
    let rest = follow_rest (ReadsRaw bytes) (raw_same bytes) place refuses.front rs refuses.middle end (omega (arith, less)) refuses.records reads.records in
    refused_at bytes refuses.front refuses.middle error rest.0 end (subst (λ (l : List RawRecord). length refuses.front < length l) rest.1 less) rest.2 refuses.next

-- ---- messages

-- the parts of a message that is read, from another header and from places that are found again
module _ (bytes : List ℕ) (m : RawMessage) (r : ReadsRawMessage bytes m) where
  head_is : (h : Header) → DecodesHeader bytes 0 h 12 → m.head ≡ h
  head_is h header = (header_unambiguous bytes 0 m.head h 12 12 r.header header).0

  queries_from : (h : Header) → DecodesHeader bytes 0 h 12 → ReadsQuestions bytes 12 h.counts.queries m.queries r.queries_end
  queries_from h header = subst (λ (x : Header). ReadsQuestions bytes 12 x.counts.queries m.queries r.queries_end) (head_is h header) r.queries

  answers_from : (h : Header) (queries_end : ℕ) → DecodesHeader bytes 0 h 12 → r.queries_end ≡ queries_end → ReadsRecords bytes queries_end h.counts.answers m.answers r.answers_end
  answers_from h queries_end header e = subst (λ (n : ℕ). ReadsRecords bytes n h.counts.answers m.answers r.answers_end) e (subst (λ (x : Header). ReadsRecords bytes r.queries_end x.counts.answers m.answers r.answers_end) (head_is h header) r.answers)

  authorities_from : (h : Header) (answers_end : ℕ) → DecodesHeader bytes 0 h 12 → r.answers_end ≡ answers_end → ReadsRecords bytes answers_end h.counts.authorities m.authorities r.authorities_end
  authorities_from h answers_end header e = subst (λ (n : ℕ). ReadsRecords bytes n h.counts.authorities m.authorities r.authorities_end) e (subst (λ (x : Header). ReadsRecords bytes r.answers_end x.counts.authorities m.authorities r.authorities_end) (head_is h header) r.authorities)

  additionals_from : (h : Header) (authorities_end : ℕ) → DecodesHeader bytes 0 h 12 → r.authorities_end ≡ authorities_end → ReadsRecords bytes authorities_end h.counts.additionals m.additionals r.end
  additionals_from h authorities_end header e = subst (λ (n : ℕ). ReadsRecords bytes n h.counts.additionals m.additionals r.end) e (subst (λ (x : Header). ReadsRecords bytes r.authorities_end x.counts.additionals m.additionals r.end) (head_is h header) r.additionals)

  -- the same header, questions and records, and the same ends
  queries_are : (h : Header) (qs : List Query) (n : ℕ) → DecodesHeader bytes 0 h 12 → ReadsQuestions bytes 12 h.counts.queries qs n → (m.queries ≡ qs) × (r.queries_end ≡ n)
  queries_are h qs n header queries = questions_same bytes 12 h.counts.queries m.queries qs r.queries_end n (queries_from h header) queries

  answers_are : (h : Header) (p : ℕ) (rs : List RawRecord) (n : ℕ) → DecodesHeader bytes 0 h 12 → r.queries_end ≡ p → ReadsRecords bytes p h.counts.answers rs n → (m.answers ≡ rs) × (r.answers_end ≡ n)
  answers_are h p rs n header e reads = records_same bytes p h.counts.answers m.answers rs r.answers_end n (answers_from h p header e) reads

  authorities_are : (h : Header) (p : ℕ) (rs : List RawRecord) (n : ℕ) → DecodesHeader bytes 0 h 12 → r.answers_end ≡ p → ReadsRecords bytes p h.counts.authorities rs n → (m.authorities ≡ rs) × (r.authorities_end ≡ n)
  authorities_are h p rs n header e reads = records_same bytes p h.counts.authorities m.authorities rs r.authorities_end n (authorities_from h p header e) reads

  additionals_are : (h : Header) (p : ℕ) (rs : List RawRecord) (n : ℕ) → DecodesHeader bytes 0 h 12 → r.authorities_end ≡ p → ReadsRecords bytes p h.counts.additionals rs n → (m.additionals ≡ rs) × (r.end ≡ n)
  additionals_are h p rs n header e reads = records_same bytes p h.counts.additionals m.additionals rs r.end n (additionals_from h p header e) reads

  pub raw_message_not_refused : (error : DecodeError) → RefusesRawMessage bytes error → ⊥
  raw_message_not_refused error (no_header short) = omega (arith, short, r.header.there.within)
  raw_message_not_refused error (no_queries h header refused) = questions_not_refused bytes 12 h.counts.queries m.queries r.queries_end error (queries_from h header) refused
  raw_message_not_refused error (no_answers h qs queries_end header queries refused) =
      records_not_refused bytes queries_end h.counts.answers m.answers r.answers_end error (answers_from h queries_end header (queries_are h qs queries_end header queries).1) refused
  raw_message_not_refused error (no_authorities h qs answers queries_end answers_end header queries answered refused) =
      let q = (queries_are h qs queries_end header queries).1 in
      let an = (answers_are h queries_end answers answers_end header q answered).1 in
      records_not_refused bytes answers_end h.counts.authorities m.authorities r.authorities_end error (authorities_from h answers_end header an) refused
  raw_message_not_refused error (no_additionals h qs answers authorities queries_end answers_end authorities_end header queries answered authorized refused) =
      let q = (queries_are h qs queries_end header queries).1 in
      let an = (answers_are h queries_end answers answers_end header q answered).1 in
      let au = (authorities_are h answers_end authorities authorities_end header an authorized).1 in
      records_not_refused bytes authorities_end h.counts.additionals m.additionals r.end error (additionals_from h authorities_end header au) refused

  pub raw_message_same : (other : RawMessage) → ReadsRawMessage bytes other → m ≡ other
  raw_message_same other s =
      let h = head_is other.head s.header in
      let q = queries_are other.head other.queries s.queries_end s.header s.queries in
      let an = answers_are other.head s.queries_end other.answers s.answers_end s.header q.1 s.answers in
      let au = authorities_are other.head s.answers_end other.authorities s.authorities_end s.header an.1 s.authorities in
      let ad = additionals_are other.head s.authorities_end other.additionals s.end s.header au.1 s.additionals in
      ap (λ (x : Header). record m { head = x }) h
      ∙ ap (λ (l : List Query). record m { head = other.head; queries = l }) q.0
      ∙ ap (λ (l : List RawRecord). record m { head = other.head; queries = other.queries; answers = l }) an.0
      ∙ ap (λ (l : List RawRecord). record other { authorities = l; additionals = m.additionals }) au.0
      ∙ ap (λ (l : List RawRecord). record other { additionals = l }) ad.0
