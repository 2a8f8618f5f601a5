-- The TSIG record that is found in a message is the last record that the decoder reads.
use Rattle.std.proofs.Common.{◌≡◌, ◌<◌, ◌≤◌, ◌&&◌, ◌||◌, ◌+◌, ◌-◌, ◌*◌, ◌^◌, Bool, true, false, cond, not, ℕ, zero, suc, List, [], ◌∷◌, ◌++◌, length, take, drop, get_or, Option, Some, None, refl, sym, subst, ap, ◌∙◌, arith, length-append, length-drop}
use Rattle.std.proofs.lemmas.Bool.{eqb-true, le-ltb, ltb-false}
use Rattle.std.proofs.lemmas.Bool.Decides.{nat_tests}
use Rattle.std.proofs.lemmas.List.{drop-drop, get_or-drop, take_all}
use Rattle.std.specs.Int.{w16, to_be_bytes}
use Rattle.std.proofs.lemmas.List.Folds.{find-append}
use Rattle.std.specs.List.{find}
use Rattle.std.specs.Option.{option_or}
use Rattle.std.specs.Prelude.{nat_le, nat_lt, ◌==◌, option_and_then}
use Rattle.std.specs.Str.{bytes_eq}
use Rattle.dns_wire.proofs.BytesAtLaws.{bytes_at-rest}
use Rattle.dns_wire.proofs.ReadingLaws.{reads_same}
use Rattle.dns_wire.specs.Decodable.{BytesAt, Follow}
use Rattle.dns_wire.specs.Encodable.{PiecesAt}
use Rattle.dns_wire.specs.codes.RecordType.{type_number, type_of}
use Rattle.dns_wire.specs.declared.codes.record_type.RecordType.{RecordType}
use Rattle.dns_wire.specs.declared.codes.record_type.RecordType.TheVariants as types
use Rattle.dns_wire.specs.declared.name_encoding.NameEncoding.TheVariants.{Uncompressed}
use Rattle.dns_data.specs.declared.rdata.RData.{RData}
use Rattle.dns_data.specs.declared.rdata.RData.TheVariants as of
use Rattle.dns_data.specs.rdata.{data_pieces, data_type, is_update_data}
use Rattle.dns_records.specs.Record.{Record, ReadsRecord, head_of}
use Rattle.dns_records.specs.RecordHead.{head_form}
use Rattle.dns_messages.specs.Grammar.{ReadsMessage, ReadsQuestion}
use Rattle.dns_messages.specs.Header.{DecodesHeader, header_layout}
use Rattle.dns_messages.specs.Question.{question_pieces}
use Rattle.dns_messages.specs.Section.{is_signature, is_tsig_type}
use Rattle.dns_messages.specs.declared.header.Header.{Header}
use Rattle.dns_messages.specs.declared.message.Message.{Message}
use Rattle.dns_messages.specs.declared.query.Query.{Query}
use Rattle.dns_tsig.specs.Found.{IsSignature}
use Rattle.dns_tsig.specs.Layout.{body_layout, end_layout, fields_layout, layout_of, plain_layout, records_layout}
use Rattle.dns_tsig.specs.Numbers.{number_at}
use Rattle.dns_tsig.specs.Skip.{after_bytes, after_fields, after_name, after_plain_fields, after_plain_record, after_question, after_questions, after_records, is_tsig}
use Rattle.dns_tsig.specs.Tsig.{fields_of, tsig_head, tsig_of}
use Rattle.dns_tsig.specs.TsigFields.{TsigFields}
use Rattle.dns_tsig.specs.WireName.{canonical_name}
use Rattle.dns_tsig.specs.declared.found.Signature.{Signature}
use Rattle.dns_tsig.specs.declared.layout.Layout.TheVariants as layouts
use Rattle.dns_tsig_laws.proofs.HeaderlessLaws.{pieces_end}
use Rattle.dns_tsig_laws.proofs.PassedLaws.{name_passed}
use Rattle.dns_tsig_laws.proofs.RecordLaws.{number_first}
use Rattle.dns_tsig_laws.specs.Executed.{IsDecodedAs}

-- ---- numbers

number_there : (buffer : List ℕ) (place n end : ℕ) → BytesAt buffer place (to_be_bytes w16 n) end → n < 2 ^ 16 → number_at (drop place buffer) 0 ≡ n
number_there buffer place n end b h = ap (λ (l : List ℕ). number_at l 0) (bytes_at-rest buffer place (to_be_bytes w16 n) end b) ∙ number_first n (drop end buffer) h

number_later : (bytes : List ℕ) (place : ℕ) → number_at bytes place ≡ number_at (drop place bytes) 0
number_later bytes place =
    let here : place + 0 ≡ place = omega arith in
    let high : get_or (drop place bytes) 0 0 ≡ get_or bytes place 0 = get_or-drop place bytes 0 0 ∙ ap (λ (n : ℕ). get_or bytes n 0) here in
    let low : get_or (drop place bytes) 1 0 ≡ get_or bytes (place + 1) 0 = get_or-drop place bytes 1 0 in
    ap (λ (x : ℕ). 256 * x + get_or bytes (place + 1) 0) (sym high) ∙ ap (λ (x : ℕ). 256 * get_or (drop place bytes) 0 0 + x) (sym low)

-- the counts of a header
pub record HasCounts (message : List ℕ) (h : Header) : Type 0 where
  pub long : 12 ≤ length message
  pub queries : number_at message 4 ≡ h.counts.queries
  pub answers : number_at message 6 ≡ h.counts.answers
  pub authorities : number_at message 8 ≡ h.counts.authorities
  pub additionals : number_at message 10 ≡ h.counts.additionals

pub counts_there : (message : List ℕ) (h : Header) → DecodesHeader message 0 h 12 → HasCounts message h
counts_there message h d =
    let c = h.counts in
    let whole : message ≡ header_layout h.metadata.id d.third d.fourth c.queries c.answers c.authorities c.additionals ++ drop 12 message = bytes_at-rest message 0 _ 12 d.there in
    let at : (n : ℕ) → number_at message n ≡ number_at (header_layout h.metadata.id d.third d.fourth c.queries c.answers c.authorities c.additionals ++ drop 12 message) n = λ n. ap (λ (l : List ℕ). number_at l n) whole in
    record {
      long = d.there.within;
      queries = at 4 ∙ number_first c.queries [] d.counts_fit.queries;
      answers = at 6 ∙ number_first c.answers [] d.counts_fit.answers;
      authorities = at 8 ∙ number_first c.authorities [] d.counts_fit.authorities;
      additionals = at 10 ∙ number_first c.additionals [] d.counts_fit.additionals;
    }

-- ---- questions

bytes_passed : (buffer : List ℕ) (place len end : ℕ) → place + len ≡ end → end ≤ length buffer → after_bytes len (drop place buffer) ≡ Some (drop end buffer)
bytes_passed buffer place len end e h =
    let long : nat_lt (length (drop place buffer)) len ≡ false = le-ltb (length (drop place buffer)) len (omega (arith, length-drop place buffer)) in
    ap (λ (b : Bool). cond b None (Some (drop len (drop place buffer)))) long ∙ ap (λ (l : List ℕ). Some l) (drop-drop len place buffer ∙ ap (λ (n : ℕ). drop n buffer) e)

question_passed : (buffer : List ℕ) (place : ℕ) (q : Query) (end : ℕ) → ReadsQuestion buffer place q end → after_question (drop place buffer) ≡ Some (drop end buffer)
question_passed buffer place q end r =
    let t = r.there in
    ap (option_and_then (after_bytes 4)) (name_passed t.1)
    ∙ bytes_passed buffer t.0 4 end (omega (arith, t.2.1.ends, t.2.2.1.ends, t.2.2.2)) (omega (arith, t.2.2.1.within, t.2.2.2))

pub questions_passed : (buffer : List ℕ) (place : ℕ) (queries : List Query) (end : ℕ) → Follow (ReadsQuestion buffer) place queries end → after_questions (length queries) (drop place buffer) ≡ Some (drop end buffer)
questions_passed buffer place [] end f = ap (λ (n : ℕ). Some (drop n buffer)) f
questions_passed buffer place (q ∷ queries) end f = ap (option_and_then (after_questions (length queries))) (question_passed buffer place q f.0 f.1) ∙ questions_passed buffer f.0 queries end f.2

pub questions_end : (buffer : List ℕ) (place : ℕ) (queries : List Query) (end : ℕ) → Follow (ReadsQuestion buffer) place queries end → place ≤ end
questions_end buffer place [] end f = omega (arith, f)
questions_end buffer place (q ∷ queries) end f = omega (arith, pieces_end buffer place (question_pieces q) f.0 f.1.there, questions_end buffer f.0 queries end f.2)

-- ---- records

-- what is after the owner of a record
record HasFieldsAt (buffer : List ℕ) (place : ℕ) (r : Record) (len data_place : ℕ) : Type 0 where
  kind : number_at (drop place buffer) 0 ≡ type_number (data_type r.rdata)
  size : number_at (drop place buffer) 8 ≡ len
  ends : place + 10 ≡ data_place
  within : data_place ≤ length buffer

fields_there : (buffer : List ℕ) (place : ℕ) (r : Record) (end : ℕ) (d : ReadsRecord buffer place r end) → HasFieldsAt buffer d.head.there.0 r d.len d.data_place
fields_there buffer place r end d =
    let h = d.head in
    let t = h.there in
    let ends : t.0 + 10 ≡ d.data_place = omega (arith, t.2.1.ends, t.2.2.1.ends, t.2.2.2.1.ends, t.2.2.2.2.1.ends, t.2.2.2.2.2) in
    let there : t.0 + 8 ≡ t.2.2.2.0 = omega (arith, t.2.1.ends, t.2.2.1.ends, t.2.2.2.1.ends) in
    record {
      kind = number_there buffer t.0 (type_number (data_type r.rdata)) t.2.0 t.2.1 h.type_fits;
      size = number_later (drop t.0 buffer) 8 ∙ ap (λ (l : List ℕ). number_at l 0) (drop-drop 8 t.0 buffer ∙ ap (λ (n : ℕ). drop n buffer) there)
          ∙ number_there buffer t.2.2.2.0 d.len t.2.2.2.2.0 t.2.2.2.2.1 h.len_fits;
      ends = ends;
      within = omega (arith, t.2.2.2.2.1.within, t.2.2.2.2.2);
    }

-- bytes that are skipped
bytes_left : (len : ℕ) (bytes rest : List ℕ) → after_bytes len bytes ≡ Some rest → rest ≡ drop len bytes
bytes_left len bytes rest e = by (nat_lt (length bytes) len) e
  where
    by : (is_short : Bool) → cond is_short None (Some (drop len bytes)) ≡ Some rest → rest ≡ drop len bytes
    by true e = absurd (cc)
    by false e = cc

-- a record that is skipped, and is no TSIG record
record IsPassed (buffer rest : List ℕ) (r : Record) (end : ℕ) : Type 0 where
  left : rest ≡ drop end buffer
  kind : (type_number (data_type r.rdata) == 250) ≡ false

record_passed : (buffer : List ℕ) (place : ℕ) (r : Record) (end : ℕ) (rest : List ℕ) → ReadsRecord buffer place r end → after_plain_record (drop place buffer) ≡ Some rest → IsPassed buffer rest r end
record_passed buffer place r end rest d e =
    let start : ℕ = d.head.there.0 in
    let fields : List ℕ = drop start buffer in
    let f = fields_there buffer place r end d in
    let named : after_plain_record (drop place buffer) ≡ after_plain_fields fields = ap (option_and_then after_plain_fields) (name_passed d.head.there.1) in
    let two : nat_le 2 (length fields) ≡ true = grind (arith, nat_tests, length-drop start buffer, f.ends, f.within) in
    let test : is_tsig fields ≡ (type_number (data_type r.rdata) == 250) = ap (λ (b : Bool). b && number_at fields 0 == 250) two ∙ ap (λ (n : ℕ). n == 250) f.kind in
    by f test (is_tsig fields) refl (nat_lt (length fields) 10) (sym named ∙ e)
  where
    by : HasFieldsAt buffer d.head.there.0 r d.len d.data_place → is_tsig (drop d.head.there.0 buffer) ≡ (type_number (data_type r.rdata) == 250) → (signs : Bool) → is_tsig (drop d.head.there.0 buffer) ≡ signs → (is_short : Bool)
        → cond signs None (cond is_short None (after_bytes (number_at (drop d.head.there.0 buffer) 8) (drop 10 (drop d.head.there.0 buffer)))) ≡ Some rest → IsPassed buffer rest r end
    by f test true is short e = absurd (cc)
    by f test false is true e = absurd (cc)
    by f test false is false e = record {
      left = bytes_left (number_at (drop d.head.there.0 buffer) 8) (drop 10 (drop d.head.there.0 buffer)) rest e
          ∙ ap (λ (n : ℕ). drop n (drop 10 (drop d.head.there.0 buffer))) f.size
          ∙ ap (drop d.len) (drop-drop 10 d.head.there.0 buffer ∙ ap (λ (n : ℕ). drop n buffer) f.ends)
          ∙ drop-drop d.len d.data_place buffer ∙ ap (λ (n : ℕ). drop n buffer) d.ends;
      kind = sym test ∙ is;
    }

pub record_ends : (buffer : List ℕ) (place : ℕ) (r : Record) (end : ℕ) → ReadsRecord buffer place r end → place ≤ end
record_ends buffer place r end d = omega (arith, pieces_end buffer place (head_form (head_of r d.len) d.head.class) d.data_place d.head.there, d.ends)

pub records_end : (buffer : List ℕ) (place : ℕ) (records : List Record) (end : ℕ) → Follow (ReadsRecord buffer) place records end → place ≤ end
records_end buffer place [] end f = omega (arith, f)
records_end buffer place (r ∷ records) end f = omega (arith, record_ends buffer place r f.0 f.1, records_end buffer f.0 records end f.2)

other_type : (t : RecordType) → (type_number t == 250) ≡ false → is_tsig_type t ≡ false
other_type types.TSIG e = absurd (cc)
other_type t e = refl

unsigned_record : (r : Record) → (type_number (data_type r.rdata) == 250) ≡ false → is_signature r ≡ false
unsigned_record r e = ap (λ (b : Bool). b && not (is_update_data r.rdata)) (other_type (data_type r.rdata) e)

-- records that are skipped, of which none is a signature, before so many others
pub record ArePassed (buffer rest : List ℕ) (records : List Record) (more end : ℕ) : Type 0 where
  pub left : after_records more (drop end buffer) ≡ Some rest
  pub unsigned : find is_signature records ≡ None

pub records_passed : (buffer : List ℕ) (place : ℕ) (records : List Record) (end : ℕ) → Follow (ReadsRecord buffer) place records end → (count more : ℕ) (rest : List ℕ) → count ≡ length records + more → after_records count (drop place buffer) ≡ Some rest → ArePassed buffer rest records more end
records_passed buffer place [] end f count more rest n e = record {
  left = ap (λ (k : ℕ). after_records more (drop k buffer)) (sym f) ∙ ap (λ (k : ℕ). after_records k (drop place buffer)) (omega (arith, n)) ∙ e;
  unsigned = refl;
}
records_passed buffer place (r ∷ records) end f zero more rest n e = absurd (omega (arith, n))
records_passed buffer place (r ∷ records) end f (suc count) more rest n e =
    by (λ left. records_passed buffer f.0 records end f.2 count more rest (omega (arith, n)) left) (after_plain_record (drop place buffer)) refl e
  where
    by : (after_records count (drop f.0 buffer) ≡ Some rest → ArePassed buffer rest records more end) → (skipped : Option (List ℕ)) → after_plain_record (drop place buffer) ≡ skipped → option_and_then (after_records count) skipped ≡ Some rest → ArePassed buffer rest (r ∷ records) more end
    by next None is e = absurd (cc)
    by next (Some left) is e =
        let one = record_passed buffer place r f.0 left f.1 is in
        let others = next (ap (after_records count) (sym one.left) ∙ e) in
        record { left = others.left; unsigned = ap (λ (b : Bool). cond b (Some r) (find is_signature records)) (unsigned_record r one.kind) ∙ others.unsigned }

-- ---- the layout

never_signed : (o : Option (List ℕ)) (place : ℕ) → plain_layout o ≡ layouts.Signed place → ⊥
never_signed None place e = cc
never_signed (Some rest) place e = cc

-- a TSIG record is at the end of a message, from a place after the records that are skipped
record EndsInTsig (message records : List ℕ) (place : ℕ) : Type 0 where
  counted : (number_at message 10 == 0) ≡ false
  tsig : List ℕ
  skipped : after_records (number_at message 6 + number_at message 8 + (number_at message 10 - 1)) records ≡ Some tsig
  fields : List ℕ
  owned : after_name tsig ≡ Some fields
  signs : is_tsig fields ≡ true
  place_is : 12 + (length message - 12 - length tsig) ≡ place

ends_in_tsig : (message records : List ℕ) (place : ℕ) → records_layout message records ≡ layouts.Signed place → EndsInTsig message records place
ends_in_tsig message records place e = by (number_at message 10 == 0) refl e
  where
    count : ℕ
    count = number_at message 6 + number_at message 8 + (number_at message 10 - 1)

    by_test : (number_at message 10 == 0) ≡ false → (tsig : List ℕ) → after_records count records ≡ Some tsig → (fields : List ℕ) → after_name tsig ≡ Some fields → (signs : Bool) → is_tsig fields ≡ signs
        → cond signs (layouts.Signed (12 + (length message - 12 - length tsig))) (plain_layout (after_fields fields)) ≡ layouts.Signed place → EndsInTsig message records place
    by_test c tsig s fields o true is e = let place_is : 12 + (length message - 12 - length tsig) ≡ place = cc in record { counted = c; tsig = tsig; skipped = s; fields = fields; owned = o; signs = is; place_is = place_is }
    by_test c tsig s fields o false is e = absurd (never_signed (after_fields fields) place e)

    by_name : (number_at message 10 == 0) ≡ false → (tsig : List ℕ) → after_records count records ≡ Some tsig → (named : Option (List ℕ)) → after_name tsig ≡ named → fields_layout message tsig named ≡ layouts.Signed place → EndsInTsig message records place
    by_name c tsig s None is e = absurd (cc)
    by_name c tsig s (Some fields) is e = by_test c tsig s fields is (is_tsig fields) refl e

    by_records : (number_at message 10 == 0) ≡ false → (skipped : Option (List ℕ)) → after_records count records ≡ skipped → end_layout message skipped ≡ layouts.Signed place → EndsInTsig message records place
    by_records c None is e = absurd (cc)
    by_records c (Some tsig) is e = by_name c tsig is (after_name tsig) refl e

    by : (none : Bool) → (number_at message 10 == 0) ≡ none → cond none (plain_layout (after_records (number_at message 6 + number_at message 8) records)) (end_layout message (after_records count records)) ≡ layouts.Signed place → EndsInTsig message records place
    by true is e = absurd (never_signed (after_records (number_at message 6 + number_at message 8) records) place e)
    by false is e = by_records is (after_records count records) refl e

-- the last of some items
record HasLast {X : Type 0} (xs : List X) : Type 0 where
  front : List X
  item : X
  is : xs ≡ front ++ item ∷ []

last_of : {X : Type 0} (xs : List X) → 0 < length xs → HasLast xs
last_of [] h = absurd (omega arith)
last_of (x ∷ []) h = record { front = []; item = x; is = refl }
last_of (x ∷ y ∷ xs) h = let l = last_of (y ∷ xs) (omega arith) in record { front = x ∷ l.front; item = l.item; is = ap (λ (ys : List _). x ∷ ys) l.is }

follow_last : {X : Type 0} (R : ℕ → X → ℕ → Type 0) (place : ℕ) (xs : List X) (y : X) (end : ℕ) → Follow R place (xs ++ y ∷ []) end → (middle : ℕ) × Follow R place xs middle × R middle y end
follow_last R place [] y end f = (place, refl, subst (λ (n : ℕ). R place y n) f.2 f.1)
follow_last R place (x ∷ xs) y end f = let l = follow_last R f.0 xs y end f.2 in (l.0, (f.0, f.1, l.1), l.2)

-- ---- the TSIG record

-- how many records are before the last
abbrev pub records_before : List ℕ → ℕ
records_before message = number_at message 6 + number_at message 8 + (number_at message 10 - 1)

-- the record at a place is the last that the decoder reads, and its type is TSIG
pub record ReadsLast (message : List ℕ) (m : Message) (r : ReadsMessage message m) (place : ℕ) : Type 0 where
  pub front : List Record
  pub tsig : Record
  pub last : r.last ≡ front ++ tsig ∷ []
  pub before : Follow (ReadsRecord message) r.authorities_end front place
  pub there : ReadsRecord message place tsig r.end
  pub unsigned : find is_signature front ≡ None
  pub kind : data_type tsig.rdata ≡ types.TSIG
  pub counted : 0 < number_at message 10
  pub skipped : option_and_then (after_records (records_before message)) (after_questions (number_at message 4) (drop 12 message)) ≡ Some (drop place message)

after_some : (bytes fields : List ℕ) → after_name bytes ≡ Some fields → 0 < length bytes
after_some [] fields e = absurd (cc)
after_some (byte ∷ bytes) fields e = omega arith

pub reads_last : (message : List ℕ) (m : Message) (r : ReadsMessage message m) (place : ℕ) → layout_of message ≡ layouts.Signed place → ReadsLast message m r place
reads_last message m r place e =
    let c = counts_there message r.head r.header in
    let long : nat_lt (length message) 12 ≡ false = le-ltb (length message) 12 c.long in
    let passed : after_questions (number_at message 4) (drop 12 message) ≡ Some (drop r.queries_end message) =
    ap (λ (n : ℕ). after_questions n (drop 12 message)) (c.queries ∙ sym r.queries.count_is) ∙ questions_passed message 12 m.queries r.queries_end r.queries.queries in
    let layout : layout_of message ≡ records_layout message (drop r.queries_end message) =
    ap (λ (b : Bool). cond b layouts.Malformed (body_layout message (after_questions (number_at message 4) (drop 12 message)))) long ∙ ap (body_layout message) passed in
    let t = ends_in_tsig message (drop r.queries_end message) place (sym layout ∙ e) in
    let some : 0 < number_at message 10 = grind (arith, nat_tests, t.counted) in
    let l = last_of r.last (omega (arith, some, c.additionals, r.additionals.count_is)) in
    let lens : length r.last ≡ length l.front + 1 = ap (λ (x : List Record). length x) l.is ∙ length-append l.front (l.item ∷ []) in
    let parts = follow_last (ReadsRecord message) r.authorities_end l.front l.item r.end (subst (λ (x : List Record). Follow (ReadsRecord message) r.authorities_end x r.end) l.is r.additionals.records) in
    let answers = records_passed message r.queries_end m.answers r.answers_end r.answers.records (number_at message 6 + number_at message 8 + (number_at message 10 - 1)) (number_at message 8 + (number_at message 10 - 1)) t.tsig
    (omega (arith, c.answers, r.answers.count_is)) t.skipped in
    let authorities = records_passed message r.answers_end m.authorities r.authorities_end r.authorities.records (number_at message 8 + (number_at message 10 - 1)) (number_at message 10 - 1) t.tsig
    (omega (arith, c.authorities, r.authorities.count_is)) answers.left in
    let front = records_passed message r.authorities_end l.front parts.0 parts.1 (number_at message 10 - 1) 0 t.tsig (omega (arith, c.additionals, r.additionals.count_is, lens)) authorities.left in
    let left : drop parts.0 message ≡ t.tsig = cc (front.left) in
    let bytes : 0 < length t.tsig = after_some t.tsig t.fields t.owned in
    let rest : length t.tsig ≡ length message - parts.0 = ap (λ (x : List ℕ). length x) (sym left) ∙ length-drop parts.0 message in
    let behind : 12 ≤ parts.0 = omega (
      arith,
      questions_end message 12 m.queries r.queries_end r.queries.queries,
      records_end message r.queries_end m.answers r.answers_end r.answers.records,
      records_end message r.answers_end m.authorities r.authorities_end r.authorities.records,
      records_end message r.authorities_end l.front parts.0 parts.1,
    ) in
    let place_is : parts.0 ≡ place = omega (arith, t.place_is, rest, bytes, behind) in
    let d = parts.2 in
    let f = fields_there message parts.0 l.item r.end d in
    let named : after_name t.tsig ≡ Some (drop d.head.there.0 message) = ap after_name (sym left) ∙ name_passed d.head.there.1 in
    let fields_are : t.fields ≡ drop d.head.there.0 message = cc (t.owned) in
    let signs : is_tsig (drop d.head.there.0 message) ≡ true = ap is_tsig (sym fields_are) ∙ t.signs in
    let number : number_at (drop d.head.there.0 message) 0 ≡ 250 = grind (arith, nat_tests, signs) in
    record {
      front = l.front;
      tsig = l.item;
      last = l.is;
      before = subst (λ (n : ℕ). Follow (ReadsRecord message) r.authorities_end l.front n) place_is parts.1;
      there = subst (λ (n : ℕ). ReadsRecord message n l.item r.end) place_is d;
      unsigned = front.unsigned;
      kind = sym d.head.type_named ∙ ap type_of (sym f.kind ∙ number);
      counted = some;
      skipped = ap (option_and_then (after_records (records_before message))) passed ∙ t.skipped ∙ ap (λ (l : List ℕ). Some l) (sym left ∙ ap (λ (n : ℕ). drop n message) place_is);
    }

-- ---- the data of the record

-- the bytes after the owner of a TSIG record, and its data
record HasData (fields : List ℕ) (tsig : TsigFields) : Type 0 where
  long : 10 ≤ length fields
  size : number_at fields 8 ≡ length fields - 10
  some : 0 < length (drop 10 fields)
  read : fields_of (drop 10 fields) ≡ Some tsig

some_content : (content : List ℕ) (tsig : TsigFields) → fields_of content ≡ Some tsig → 0 < length content
some_content [] tsig e = absurd (cc)
some_content (byte ∷ content) tsig e = omega arith

data_there : (fields : List ℕ) (tsig : TsigFields) → tsig_of fields ≡ Some tsig → HasData fields tsig
data_there fields tsig e = by (nat_lt (length fields) 10) (not (bytes_eq (take 8 fields) tsig_head)) (number_at fields 8 == length fields - 10) refl refl e
  where
    by : (is_short other whole : Bool) → nat_lt (length fields) 10 ≡ is_short → (number_at fields 8 == length fields - 10) ≡ whole
        → option_and_then fields_of (cond (is_short || other) None (cond whole (Some (drop 10 fields)) None)) ≡ Some tsig → HasData fields tsig
    by true other whole s w e = absurd (cc)
    by false true whole s w e = absurd (cc)
    by false false false s w e = absurd (cc)
    by false false true s w e = record { long = ltb-false (length fields) 10 s; size = eqb-true _ _ w; some = some_content (drop 10 fields) tsig e; read = e }

-- opaque data of the type TSIG
record IsOpaque (buffer : List ℕ) (place : ℕ) (d : RData) (end : ℕ) : Type 0 where
  content : List ℕ
  rdata : d ≡ of.Unknown types.TSIG content
  there : BytesAt buffer place content end

opaque_there : (buffer : List ℕ) (place : ℕ) (d : RData) (len : ℕ) → data_type d ≡ types.TSIG → 0 < len → PiecesAt Uncompressed buffer place (data_pieces false d) (place + len) → IsOpaque buffer place d (place + len)
opaque_there buffer place (of.Unknown code bytes) len t some p = record { content = bytes; rdata = ap (λ (c : RecordType). of.Unknown c bytes) t; there = subst (λ (n : ℕ). BytesAt buffer place bytes n) p.2 p.1 }
opaque_there buffer place (of.Update0 code) len t some p = absurd (omega (arith, p, some))
opaque_there buffer place d len t some p = absurd (cc)

-- the last record has the owner and the fields of the record that was found
record IsFound (message : List ℕ) (found : Signature) (m : Message) (r : ReadsMessage message m) (l : ReadsLast message m r found.place) : Type 0 where
  end : r.end ≡ length message
  owner : canonical_name l.tsig.name.labels ≡ found.name.items
  content : List ℕ
  rdata : l.tsig.rdata ≡ of.Unknown types.TSIG content
  fields : fields_of content ≡ Some found.tsig

last_found : (message : List ℕ) (found : Signature) (m : Message) (r : ReadsMessage message m) (l : ReadsLast message m r found.place) → IsSignature message found → IsFound message found m r l
last_found message found m r l s =
    let d = l.there in
    let same = reads_same s.owner.reads d.head.there.1 in
    let start : ℕ = d.head.there.0 in
    let fields : List ℕ = drop start message in
    let h = data_there fields found.tsig (ap (λ (n : ℕ). tsig_of (drop n message)) (sym same.1) ∙ s.fields) in
    let f = fields_there message found.place l.tsig r.end d in
    let content_is : drop 10 fields ≡ drop d.data_place message = drop-drop 10 start message ∙ ap (λ (n : ℕ). drop n message) f.ends in
    let len : d.len ≡ length (drop 10 fields) = sym f.size ∙ h.size ∙ sym (length-drop 10 fields) in
    let o = opaque_there message d.data_place l.tsig.rdata d.len l.kind (omega (arith, len, h.some)) d.rdata.there in
    let lens : length o.content ≡ d.len = omega (arith, o.there.ends) in
    let all : o.content ≡ drop 10 fields =
    sym o.there.there ∙ ap (take (length o.content)) (sym content_is) ∙ take_all (length o.content) (drop 10 fields) (omega (arith, lens, len)) in
    record {
      end = omega (arith, d.ends, f.ends, f.within, len, length-drop 10 fields, length-drop start message, h.long);
      owner = ap canonical_name (sym same.0) ∙ sym s.owner.canonical;
      content = o.content;
      rdata = o.rdata;
      fields = ap fields_of all ∙ h.read;
    }

pub last_signs : (message : List ℕ) (found : Signature) (m : Message) (r : ReadsMessage message m) (l : ReadsLast message m r found.place) → IsSignature message found → is_signature l.tsig ≡ true
last_signs message found m r l s = ap (λ (d : RData). is_tsig_type (data_type d) && not (is_update_data d)) (last_found message found m r l s).rdata

-- the signature is the last record
find_last : (front : List Record) (tsig : Record) → find is_signature front ≡ None → is_signature tsig ≡ true → find is_signature (front ++ tsig ∷ []) ≡ Some tsig
find_last front tsig none e =
    find-append is_signature front (tsig ∷ []) ∙ ap (λ (o : Option Record). option_or o (cond (is_signature tsig) (Some tsig) None)) none ∙ ap (λ (b : Bool). cond b (Some tsig) None) e

-- the record that was found is the one that is decoded
pub found_decoded : (message : List ℕ) (found : Signature) (m : Message) → IsSignature message found → ReadsMessage message m → IsDecodedAs message found m
found_decoded message found m s r =
    let l = reads_last message m r found.place s.layout in
    let i = last_found message found m r l s in
    record {
      tsig = l.tsig;
      signature = r.signature ∙ ap (find is_signature) l.last ∙ find_last l.front l.tsig l.unsigned (last_signs message found m r l s);
      there = subst (λ (n : ℕ). ReadsRecord message found.place l.tsig n) i.end l.there;
      owner = i.owner;
      content = i.content;
      rdata = i.rdata;
      fields = i.fields;
    }
