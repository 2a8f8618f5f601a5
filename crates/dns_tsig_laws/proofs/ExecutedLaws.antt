-- A message that is executed is the message that was signed.
use Rattle.std.proofs.Common.{◌≡◌, ◌<◌, ◌≤◌, ◌||◌, ◌+◌, ◌-◌, ◌^◌, Bool, true, false, cond, not, ℕ, List, [], ◌∷◌, ◌++◌, length, take, drop, Option, Some, None, refl, sym, subst, ap, ◌∙◌, arith, append_assoc, length-append, length-drop, length-take, ⊎_elim, inl, inr, ◌⊎◌}
use Rattle.std.proofs.lemmas.List.{append-nil, append_cancel_left, drop-drop, take-append-drop}
use Rattle.std.proofs.lemmas.List.Elements.{filter-append}
use Rattle.std.proofs.lemmas.List.Folds.{find-append}
use Rattle.std.specs.Int.{w16, to_be_bytes}
use Rattle.std.specs.List.{find}
use Rattle.std.specs.Option.{option_or}
use Rattle.std.specs.Prelude.{option_and_then, option_map, replicate, slice_range}
use Rattle.dns_wire.proofs.BytesAtLaws.{bytes_at-rest}
use Rattle.dns_wire.proofs.PieceLaws.{pieces_at-append}
use Rattle.dns_wire.specs.Decodable.{Follow}
use Rattle.dns_wire.specs.Encodable.{Piece, PiecesAt}
use Rattle.dns_wire.specs.declared.codes.record_type.RecordType.{RecordType}
use Rattle.dns_wire.specs.declared.codes.record_type.RecordType.TheVariants as types
use Rattle.dns_wire.specs.declared.name_encoding.NameEncoding.TheVariants.{Uncompressed}
use Rattle.dns_data.specs.rdata.{data_pieces, data_type}
use Rattle.dns_records.specs.Record.{Record, ReadsRecord, head_of}
use Rattle.dns_records.specs.RecordHead.{head_form}
use Rattle.dns_records.specs.internal.Records.{record_same}
use Rattle.dns_messages.proofs.FollowLaws.{follow_same}
use Rattle.dns_messages.specs.Edns.{edns_of}
use Rattle.dns_messages.specs.Grammar.{ReadsMessage, ReadsQuestion, extended}
use Rattle.dns_messages.specs.Header.{DecodesHeader, header_layout, metadata_of}
use Rattle.dns_messages.specs.Question.{question_pieces}
use Rattle.dns_messages.specs.Section.{edns_in, is_opt, is_opt_type, is_signature, ordinary_records, signature_in}
use Rattle.dns_messages.specs.declared.edns.Edns.{Edns}
use Rattle.dns_messages.specs.declared.header.Header.{Header}
use Rattle.dns_messages.specs.declared.header.Metadata.{Metadata}
use Rattle.dns_messages.specs.declared.message.Message.{Message}
use Rattle.dns_messages.specs.declared.query.Query.{Query}
use Rattle.dns_messages.specs.internal.Questions.{question_same}
use Rattle.dns_wire.specs.internal.NumberLaws.{same_number_2}
use Rattle.dns_tsig.specs.Covered.{prior_bytes, unsigned_message, variables}
use Rattle.dns_tsig.specs.Found.{IsSignature}
use Rattle.dns_tsig.specs.Judge.{received_text}
use Rattle.dns_tsig.specs.Numbers.{number_at}
use Rattle.dns_tsig.specs.Skip.{after_questions, after_records}
use Rattle.dns_tsig.specs.declared.covered.Coverage.TheVariants.{Variables}
use Rattle.dns_tsig.specs.declared.found.Signature.{Signature}
use Rattle.dns_tsig.specs.declared.key.Key.{Key}
use Rattle.dns_tsig_laws.proofs.BeforeLaws.{sections_before}
use Rattle.dns_tsig_laws.proofs.FoundLaws.{ReadsLast, questions_passed, records_before, records_passed, counts_there, last_signs, questions_end, reads_last, record_ends, records_end}
use Rattle.dns_tsig_laws.proofs.HeaderlessLaws.{pieces_end, pieces_kept}
use Rattle.dns_tsig_laws.proofs.MoreLaws.{questions_more, records_more, then_more}
use Rattle.dns_tsig_laws.proofs.SameLaws.{same_front}
use Rattle.dns_tsig_laws.specs.Executed.{DecodesApart, IsExecutionOf, signed_text, without_header}

-- ---- what is decoded without a header is decoded with one

module _ (header body more : List ℕ) (len : length header ≡ 12) where
  abbrev blank : List ℕ
  blank = replicate 12 64 ++ body

  abbrev whole : List ℕ
  whole = (header ++ body) ++ more

  pieces_there : (place : ℕ) (pieces : List Piece) (end : ℕ) → 12 ≤ place → PiecesAt Uncompressed blank place pieces end → PiecesAt Uncompressed whole place pieces end
  pieces_there place pieces end h p = pieces_at-append Uncompressed (header ++ body) more place pieces end (pieces_kept header body len place pieces end h p)

  record_there : (place : ℕ) (r : Record) (end : ℕ) → 12 ≤ place → ReadsRecord blank place r end → ReadsRecord whole place r end
  record_there place r end h d =
      let head = d.head in
      let behind : place ≤ d.data_place = pieces_end blank place (head_form (head_of r d.len) head.class) d.data_place head.there in
      record {
        len = d.len;
        data_place = d.data_place;
        head = record {
          fqdn = head.fqdn;
          type_fits = head.type_fits;
          type_named = head.type_named;
          class = head.class;
          class_fits = head.class_fits;
          class_named = head.class_named;
          ttl_fits = head.ttl_fits;
          len_fits = head.len_fits;
          there = pieces_there place (head_form (head_of r d.len) head.class) d.data_place h head.there;
        };
        rdata = record {
          of_type = d.rdata.of_type;
          sound = d.rdata.sound;
          there = pieces_there d.data_place (data_pieces false r.rdata) (d.data_place + d.len) (omega (arith, h, behind)) d.rdata.there;
        };
        ends = d.ends;
      }

  pub questions_there : (place : ℕ) (queries : List Query) (end : ℕ) → 12 ≤ place → Follow (ReadsQuestion blank) place queries end → Follow (ReadsQuestion whole) place queries end
  questions_there place [] end h f = f
  questions_there place (q ∷ queries) end h f =
      let behind : place ≤ f.0 = pieces_end blank place (question_pieces q) f.0 f.1.there in
      (f.0, record { sound = f.1.sound; there = pieces_there place (question_pieces q) f.0 h f.1.there }, questions_there f.0 queries end (omega (arith, h, behind)) f.2)

  pub records_there : (place : ℕ) (records : List Record) (end : ℕ) → 12 ≤ place → Follow (ReadsRecord blank) place records end → Follow (ReadsRecord whole) place records end
  records_there place [] end h f = f
  records_there place (r ∷ records) end h f =
      let behind : place ≤ f.0 = record_ends blank place r f.0 f.1 in
      (f.0, record_there place r f.0 h f.1, records_there f.0 records end (omega (arith, h, behind)) f.2)

-- ---- the message that a text covers

covered_message : (key : Key) (prior old request : List ℕ) (time fudge error : ℕ) (other : List ℕ) (found : Signature) → received_text key prior request found.place found.tsig Variables ≡ signed_text key prior old time fudge error other
    → unsigned_message request found.place found.tsig.original_id ++ variables key found.tsig.time found.tsig.fudge found.tsig.error found.tsig.other ≡ old ++ variables key time fudge error other
covered_message key prior old request time fudge error other found e =
    let t = found.tsig in
    let message : List ℕ = unsigned_message request found.place t.original_id in
    let received : List ℕ = variables key t.time t.fudge t.error t.other in
    let sent : List ℕ = variables key time fudge error other in
    append_cancel_left (prior_bytes prior) (message ++ received) (old ++ sent) (sym (append_assoc (prior_bytes prior) message received) ∙ e ∙ append_assoc (prior_bytes prior) old sent)

-- ---- its header

-- headers of which at most the ids differ
record AreLike (third fourth queries answers authorities additionals third' fourth' queries' answers' authorities' additionals' : ℕ) : Type 0 where
  thirds : third ≡ third'
  fourths : fourth ≡ fourth'
  queries_same : queries ≡ queries'
  answers_same : answers ≡ answers'
  authorities_same : authorities ≡ authorities'
  additionals_same : additionals ≡ additionals'

headers_like : (id third fourth q an au ad id' third' fourth' q' an' au' ad' : ℕ) → q < 2 ^ 16 → an < 2 ^ 16 → au < 2 ^ 16 → ad < 2 ^ 16 → q' < 2 ^ 16 → an' < 2 ^ 16 → au' < 2 ^ 16 → ad' < 2 ^ 16
    → header_layout id third fourth q an au ad ≡ header_layout id' third' fourth' q' an' au' ad' → AreLike third fourth q an au ad third' fourth' q' an' au' ad'
headers_like id third fourth q an au ad id' third' fourth' q' an' au' ad' hq han hau had hq' han' hau' had' e =
    let queries : to_be_bytes w16 q ≡ to_be_bytes w16 q' = cc in
    let answers : to_be_bytes w16 an ≡ to_be_bytes w16 an' = cc in
    let authorities : to_be_bytes w16 au ≡ to_be_bytes w16 au' = cc in
    let additionals : to_be_bytes w16 ad ≡ to_be_bytes w16 ad' = cc in
    record {
      thirds = cc;
      fourths = cc;
      queries_same = same_number_2 q q' hq hq' queries;
      answers_same = same_number_2 an an' han han' answers;
      authorities_same = same_number_2 au au' hau hau' authorities;
      additionals_same = same_number_2 ad ad' had had' additionals;
    }

-- the header and the other bytes of a message, and of one that was signed
record IsCovered (old request : List ℕ) (place : ℕ) (a b : Header) (received sent : List ℕ) : Type 0 where
  body : drop 12 old ++ sent ≡ slice_range request 12 place ++ received
  third : ℕ
  fourth : ℕ
  of_signed : a.metadata ≡ metadata_of a.metadata.id third fourth
  of_received : b.metadata ≡ metadata_of b.metadata.id third fourth
  queries : a.counts.queries ≡ b.counts.queries
  answers : a.counts.answers ≡ b.counts.answers
  authorities : a.counts.authorities ≡ b.counts.authorities
  additionals : a.counts.additionals ≡ b.counts.additionals - 1

is_covered : (old request : List ℕ) (place id : ℕ) (a b : Header) (received sent : List ℕ) → unsigned_message request place id ++ received ≡ old ++ sent → DecodesHeader old 0 a 12 → DecodesHeader request 0 b 12 → IsCovered old request place a b received sent
is_covered old request place id a b received sent e d d' =
    let x : List ℕ = header_layout a.metadata.id d.third d.fourth a.counts.queries a.counts.answers a.counts.authorities a.counts.additionals in
    let y : List ℕ = header_layout b.metadata.id d'.third d'.fourth b.counts.queries b.counts.answers b.counts.authorities b.counts.additionals in
    let z : List ℕ = header_layout id d'.third d'.fourth b.counts.queries b.counts.answers b.counts.authorities (number_at request 10 - 1) in
    let old_is : old ≡ x ++ drop 12 old = bytes_at-rest old 0 x 12 d.there in
    let request_is : request ≡ y ++ drop 12 request = bytes_at-rest request 0 y 12 d'.there in
    let flags : slice_range request 2 10 ≡ d'.third ∷ d'.fourth ∷ (to_be_bytes w16 b.counts.queries ++ (to_be_bytes w16 b.counts.answers ++ to_be_bytes w16 b.counts.authorities)) = ap (λ (l : List ℕ). slice_range l 2 10) request_is in
    let covered_is : unsigned_message request place id ≡ z ++ slice_range request 12 place =
    ap (λ (l : List ℕ). to_be_bytes w16 id ++ (l ++ (to_be_bytes w16 (number_at request 10 - 1) ++ slice_range request 12 place))) flags in
    let body : List ℕ = slice_range request 12 place in
    let all : x ++ (drop 12 old ++ sent) ≡ z ++ (body ++ received) =
    sym (append_assoc x (drop 12 old) sent) ∙ ap (λ (l : List ℕ). l ++ sent) (sym old_is) ∙ sym e ∙ ap (λ (l : List ℕ). l ++ received) covered_is ∙ append_assoc z body received in
    let parts = same_front x (drop 12 old ++ sent) z (body ++ received) refl all in
    let c = d.counts_fit in
    let c' = d'.counts_fit in
    let count : number_at request 10 ≡ b.counts.additionals = (counts_there request b d').additionals in
    let same = headers_like a.metadata.id d.third d.fourth a.counts.queries a.counts.answers a.counts.authorities a.counts.additionals id d'.third d'.fourth b.counts.queries b.counts.answers b.counts.authorities (number_at request 10 - 1)
    c.queries c.answers c.authorities c.additionals c'.queries c'.answers c'.authorities (omega (arith, count, c'.additionals)) parts.front in
    record {
      body = parts.rest;
      third = d'.third;
      fourth = d'.fourth;
      of_signed = d.metadata ∙ ap (λ (n : ℕ). metadata_of a.metadata.id n d.fourth) same.thirds ∙ ap (metadata_of a.metadata.id d'.third) same.fourths;
      of_received = d'.metadata;
      queries = same.queries_same;
      answers = same.answers_same;
      authorities = same.authorities_same;
      additionals = same.additionals_same ∙ ap (λ (n : ℕ). n - 1) count;
    }

same_metadata : (e : Option Edns) (i j third fourth : ℕ) → extended e (metadata_of j third fourth) ≡ record (extended e (metadata_of i third fourth)) { id = (extended e (metadata_of j third fourth)).id }
same_metadata None i j third fourth = refl
same_metadata (Some e) i j third fourth = refl

-- ---- its additional section, with a TSIG record and without

no_opt : (t : RecordType) → t ≡ types.TSIG → is_opt_type t ≡ false
no_opt t e = ap is_opt_type e

ordinary_front : (front : List Record) (tsig : Record) → is_signature tsig ≡ true → is_opt tsig ≡ false → ordinary_records (front ++ tsig ∷ []) ≡ ordinary_records front
ordinary_front front tsig s o =
    filter-append (λ r. not (is_opt r || is_signature r)) front (tsig ∷ [])
    ∙ ap (λ (b : Bool). ordinary_records front ++ cond (not (b || is_signature tsig)) (tsig ∷ []) []) o
    ∙ ap (λ (b : Bool). ordinary_records front ++ cond (not b) (tsig ∷ []) []) s
    ∙ append-nil (ordinary_records front)

or_none : (o : Option Record) → option_or o None ≡ o
or_none None = refl
or_none (Some r) = refl

edns_front : (front : List Record) (tsig : Record) → is_opt tsig ≡ false → edns_in (front ++ tsig ∷ []) ≡ edns_in front
edns_front front tsig o =
    ap (option_map edns_of) (find-append is_opt front (tsig ∷ []) ∙ ap (λ (b : Bool). option_or (find is_opt front) (cond b (Some tsig) None)) o ∙ or_none (find is_opt front))

-- ---- the message

-- the bytes of a request are its header, what is before its TSIG record, and this record
parts_of : (request : List ℕ) (place : ℕ) → (take 12 request ++ slice_range request 12 place) ++ drop (place - 12) (drop 12 request) ≡ request
parts_of request place =
    append_assoc (take 12 request) (slice_range request 12 place) (drop (place - 12) (drop 12 request))
    ∙ ap (λ (l : List ℕ). take 12 request ++ l) (take-append-drop (place - 12) (drop 12 request)) ∙ take-append-drop 12 request

-- one list is the front of another
record Extends (longer front : List ℕ) : Type 0 where
  more : List ℕ
  is : longer ≡ front ++ more

-- of two fronts of a list, one is the front of the other
fronts : (a b c d : List ℕ) → a ++ b ≡ c ++ d → Extends c a ⊎ Extends a c
fronts [] b c d e = inl (record { more = c; is = refl })
fronts (x ∷ a) b [] d e = inr (record { more = x ∷ a; is = refl })
fronts (x ∷ a) b (y ∷ c) d e =
    let heads : x ≡ y = cc in
    let tails : a ++ b ≡ c ++ d = cc in
    ⊎_elim
    (λ l. inl (record { more = l.more; is = ap (λ (n : ℕ). n ∷ c) (sym heads) ∙ ap (λ (l : List ℕ). x ∷ l) l.is }))
    (λ r. inr (record { more = r.more; is = ap (λ (n : ℕ). n ∷ a) heads ∙ ap (λ (l : List ℕ). y ∷ l) r.is }))
    (fronts a b c d tails)

no_bytes : (bytes : List ℕ) → length bytes ≡ 0 → bytes ≡ []
no_bytes [] e = refl
no_bytes (byte ∷ bytes) e = absurd (omega (arith, e))

-- What was signed has as many records as are before the TSIG record, and ends with the last of them. So it does not go on after the place
-- of the TSIG record.
nothing_after : (old request : List ℕ) (place : ℕ) (signed executed : Message) (received sent more : List ℕ) (s : ReadsMessage old signed) (r : ReadsMessage request executed) → s.end ≡ length old → 12 ≤ place → ReadsLast request executed r place
    → IsCovered old request place s.head r.head received sent → drop 12 old ≡ slice_range request 12 place ++ more → more ≡ []
nothing_after old request place signed executed received sent more s r whole after_header l c e =
    let h = counts_there request r.head r.header in
    let questions : ℕ = number_at request 4 in
    let count : ℕ = records_before request in
    let body : List ℕ = slice_range request 12 place in
    let tail : List ℕ = drop (place - 12) (drop 12 request) in
    let halves : body ++ tail ≡ drop 12 request = take-append-drop (place - 12) (drop 12 request) in
    let there : 12 + (place - 12) ≡ place = omega (arith, after_header) in
    let tail_is : drop place request ≡ tail = sym (drop-drop (place - 12) 12 request ∙ ap (λ (n : ℕ). drop n request) there) in
    let before : option_and_then (after_records count) (after_questions questions (body ++ tail)) ≡ Some tail =
    ap (λ (bytes : List ℕ). option_and_then (after_records count) (after_questions questions bytes)) halves ∙ l.skipped ∙ ap (λ (bytes : List ℕ). Some bytes) tail_is in
    let b = sections_before questions count body tail tail before (omega arith) in
    let none : b.left ≡ [] = no_bytes b.left (omega (arith, ap (λ (bytes : List ℕ). length bytes) b.rest_is, length-append b.left tail)) in
    let alone : option_and_then (after_records count) (after_questions questions body) ≡ Some [] = b.is ∙ ap (λ (bytes : List ℕ). Some bytes) none in
    let longer : option_and_then (after_records count) (after_questions questions (body ++ more)) ≡ Some more = then_more (after_questions questions) (after_records count) (questions_more questions) (records_more count) body more [] alone in
    let passed : after_questions questions (drop 12 old) ≡ Some (drop s.queries_end old) =
    ap (λ (n : ℕ). after_questions n (drop 12 old)) (h.queries ∙ sym c.queries ∙ sym s.queries.count_is) ∙ questions_passed old 12 signed.queries s.queries_end s.queries.queries in
    let left : after_records count (drop s.queries_end old) ≡ Some more =
    ap (option_and_then (after_records count)) (sym passed) ∙ ap (λ (bytes : List ℕ). option_and_then (after_records count) (after_questions questions bytes)) e ∙ longer in
    let answers = records_passed old s.queries_end signed.answers s.answers_end s.answers.records count (number_at request 8 + (number_at request 10 - 1)) more (omega (arith, h.answers, c.answers, s.answers.count_is)) left in
    let authorities = records_passed old s.answers_end signed.authorities s.authorities_end s.authorities.records (number_at request 8 + (number_at request 10 - 1)) (number_at request 10 - 1) more
    (omega (arith, h.authorities, c.authorities, s.authorities.count_is)) answers.left in
    let additionals = records_passed old s.authorities_end s.last s.end s.additionals.records (number_at request 10 - 1) 0 more (omega (arith, h.additionals, c.additionals, s.additionals.count_is)) authorities.left in
    let rest : drop s.end old ≡ more = cc (additionals.left) in
    no_bytes more (omega (arith, ap (λ (bytes : List ℕ). length bytes) rest, length-drop s.end old, whole))

-- the header, the other bytes of what was signed, and further bytes
after_front : (old request : List ℕ) (place : ℕ) (more : List ℕ) → slice_range request 12 place ≡ drop 12 old ++ more → (take 12 request ++ drop 12 old) ++ (more ++ drop (place - 12) (drop 12 request)) ≡ request
after_front old request place more e =
    let front : List ℕ = take 12 request in
    let tail : List ℕ = drop (place - 12) (drop 12 request) in
    sym (append_assoc (front ++ drop 12 old) more tail)
    ∙ ap (λ (l : List ℕ). l ++ tail) (append_assoc front (drop 12 old) more ∙ ap (λ (l : List ℕ). front ++ l) (sym e)) ∙ parts_of request place

executed_over : (old request : List ℕ) (found : Signature) (signed executed : Message) (received sent more : List ℕ) → IsSignature request found → (a : DecodesApart old signed) (r : ReadsMessage request executed)
    → IsCovered old request found.place a.reads.head r.head received sent → (take 12 request ++ drop 12 old) ++ more ≡ request → IsExecutionOf signed executed
executed_over old request found signed executed received sent more f a r c whole_is =
    let s = a.reads in
    let place : ℕ = found.place in
    let h = counts_there request r.head r.header in
    let front : List ℕ = take 12 request in
    let body : List ℕ = drop 12 old in
    let twelve : length front ≡ 12 = omega (arith, length-take 12 request, h.long) in
    let ask : Follow (ReadsQuestion request) 12 signed.queries s.queries_end = subst (λ (b : List ℕ). Follow (ReadsQuestion b) 12 signed.queries s.queries_end) whole_is
    (questions_there front body more twelve 12 signed.queries s.queries_end (omega arith) a.queries) in
    let read : (from : ℕ) (rs : List Record) (to : ℕ) → 12 ≤ from → Follow (ReadsRecord (without_header old)) from rs to → Follow (ReadsRecord request) from rs to =
    λ from rs to behind g. subst (λ (b : List ℕ). Follow (ReadsRecord b) from rs to) whole_is (records_there front body more twelve from rs to behind g) in
    let at0 : 12 ≤ s.queries_end = questions_end request 12 signed.queries s.queries_end ask in
    let answers = read s.queries_end signed.answers s.answers_end at0 a.answers in
    let at1 : 12 ≤ s.answers_end = omega (arith, at0, records_end request s.queries_end signed.answers s.answers_end answers) in
    let authorities = read s.answers_end signed.authorities s.authorities_end at1 a.authorities in
    let at2 : 12 ≤ s.authorities_end = omega (arith, at1, records_end request s.answers_end signed.authorities s.authorities_end authorities) in
    let additionals = read s.authorities_end s.last s.end at2 a.last in
    let l = reads_last request executed r place f.layout in
    let same : (from from' : ℕ) (xs ys : List Record) (to to' : ℕ) → from ≡ from' → length xs ≡ length ys → Follow (ReadsRecord request) from xs to → Follow (ReadsRecord request) from' ys to' → (xs ≡ ys) × (to ≡ to') =
    λ from from' xs ys to to' e n g g'. follow_same (ReadsRecord request) (record_same request) from xs ys to to' n g (subst (λ (p : ℕ). Follow (ReadsRecord request) p ys to') (sym e) g') in
    let q = follow_same (ReadsQuestion request) (question_same request) 12 signed.queries executed.queries s.queries_end r.queries_end (s.queries.count_is ∙ c.queries ∙ sym r.queries.count_is) ask r.queries.queries in
    let an = same s.queries_end r.queries_end signed.answers executed.answers s.answers_end r.answers_end q.1 (s.answers.count_is ∙ c.answers ∙ sym r.answers.count_is) answers r.answers.records in
    let au = same s.answers_end r.answers_end signed.authorities executed.authorities s.authorities_end r.authorities_end an.1 (s.authorities.count_is ∙ c.authorities ∙ sym r.authorities.count_is) authorities r.authorities.records in
    let total : length r.last ≡ length l.front + 1 = ap (λ (x : List Record). length x) l.last ∙ length-append l.front (l.tsig ∷ []) in
    let ad = same s.authorities_end r.authorities_end s.last l.front s.end place au.1 (omega (arith, total, s.additionals.count_is, c.additionals, r.additionals.count_is)) additionals l.before in
    let opt : is_opt l.tsig ≡ false = no_opt (data_type l.tsig.rdata) l.kind in
    let signs : is_signature l.tsig ≡ true = last_signs request found executed r l f in
    let ordinary : executed.additionals ≡ signed.additionals = r.ordinary ∙ ap ordinary_records l.last ∙ ordinary_front l.front l.tsig signs opt ∙ ap ordinary_records (sym ad.0) ∙ sym s.ordinary in
    let edns : executed.edns ≡ signed.edns = r.edns ∙ ap edns_in l.last ∙ edns_front l.front l.tsig opt ∙ ap edns_in (sym ad.0) ∙ sym s.edns in
    let extends : Metadata → Metadata = extended signed.edns in
    let received : executed.metadata ≡ extends (metadata_of r.head.metadata.id c.third c.fourth) = r.metadata ∙ ap (λ (e : Option Edns). extended e r.head.metadata) edns ∙ ap extends c.of_received in
    let sent : signed.metadata ≡ extends (metadata_of s.head.metadata.id c.third c.fourth) = s.metadata ∙ ap extends c.of_signed in
    let metadata : executed.metadata ≡ record signed.metadata { id = executed.metadata.id } =
    received ∙ same_metadata signed.edns s.head.metadata.id r.head.metadata.id c.third c.fourth
    ∙ ap (λ (m : Metadata). record m { id = (extends (metadata_of r.head.metadata.id c.third c.fourth)).id }) (sym sent)
    ∙ ap (λ (m : Metadata). record signed.metadata { id = m.id }) (sym received) in
    let meant : Metadata = record signed.metadata { id = executed.metadata.id } in
    record {
      unsigned = s.signature ∙ ap signature_in ad.0 ∙ l.unsigned;
      same = ap (λ (m : Metadata). record executed { metadata = m }) metadata
          ∙ ap (λ (x : List Query). record executed { metadata = meant; queries = x }) (sym q.0)
          ∙ ap (λ (x : List Record). record executed { metadata = meant; queries = signed.queries; answers = x }) (sym an.0)
          ∙ ap (λ (x : List Record). record executed { metadata = meant; queries = signed.queries; answers = signed.answers; authorities = x }) (sym au.0)
          ∙ ap (λ (x : List Record). record executed { metadata = meant; queries = signed.queries; answers = signed.answers; authorities = signed.authorities; additionals = x }) ordinary
          ∙ ap (λ (e : Option Edns). record signed { metadata = meant; edns = e; signature = executed.signature }) edns;
    }

pub executed_is : (key : Key) (prior old : List ℕ) (time fudge error : ℕ) (other request : List ℕ) (found : Signature) (signed executed : Message) → IsSignature request found
    → received_text key prior request found.place found.tsig Variables ≡ signed_text key prior old time fudge error other → DecodesApart old signed → ReadsMessage request executed → IsExecutionOf signed executed
executed_is key prior old time fudge error other request found signed executed f text a r =
    let t = found.tsig in
    let place : ℕ = found.place in
    let received : List ℕ = variables key t.time t.fudge t.error t.other in
    let sent : List ℕ = variables key time fudge error other in
    let body : List ℕ = slice_range request 12 place in
    let c = is_covered old request place t.original_id a.reads.head r.head received sent (covered_message key prior old request time fudge error other found text) a.reads.header r.header in
    let over : (more : List ℕ) → body ≡ drop 12 old ++ more → IsExecutionOf signed executed =
    λ more e. executed_over old request found signed executed received sent (more ++ drop (place - 12) (drop 12 request)) f a r c (after_front old request place more e) in
    ⊎_elim
    (λ longer. over longer.more longer.is)
    (λ shorter.
    let none : shorter.more ≡ [] = nothing_after old request place signed executed received sent shorter.more a.reads r a.whole f.after_header (reads_last request executed r place f.layout) c shorter.is in
    over [] (sym (append-nil body) ∙ ap (λ (l : List ℕ). body ++ l) (sym none) ∙ sym shorter.is ∙ sym (append-nil (drop 12 old))))
    (fronts (drop 12 old) sent body received c.body)
