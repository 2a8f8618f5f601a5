-- Requests are messages, and what is read of one is determined.
use Rattle.std.proofs.Common.{◌≡◌, ℕ, ◌+◌, ◌*◌, ◌<◌, ◌≤◌, List, [], ◌∷◌, ◌++◌, length, drop, Option, Some, None, refl, sym, ap, subst, ◌∙◌, arith}
use Rattle.dns_records.specs.Record.{Record}
use Rattle.dns_messages.specs.declared.header.Metadata.{Metadata}
use Rattle.dns_messages.specs.declared.header.Header.{Header}
use Rattle.dns_messages.specs.declared.header.HeaderCounts.{HeaderCounts}
use Rattle.dns_messages.specs.declared.query.Query.{Query}
use Rattle.dns_messages.specs.declared.edns.Edns.{Edns}
use Rattle.dns_messages.specs.declared.message.Message.{Message}
use Rattle.dns_messages.specs.Header.{code_of, code_number, DecodesHeader}
use Rattle.dns_messages.specs.Section.{SectionKind, ReadsSection, ordinary_records, edns_in, signature_in}
use Rattle.dns_messages.specs.Grammar.{extended, section_kind, additional_kind, ReadsQuestions, ReadsMessage}
use Rattle.dns_messages.specs.Sound.{IsSoundQuery}
use Rattle.dns_messages.specs.internal.Headers.{header_unambiguous}
use Rattle.dns_wire.specs.Name.{AreLabels}
use Rattle.dns_message_bytes.specs.declared.view.edns_view.EdnsView.{EdnsView}
use Rattle.dns_message_bytes.specs.declared.view.request_view.RequestView.{RequestView}
use Rattle.dns_message_bytes.specs.view.Request.{question_form, question_of, opt_record, ReadsOpt, ReadsLast, request_message, request_counts, ReadsRequest, MatchEdns, IsRequestOf, extended_by}
use Rattle.dns_message_bytes.proofs.ListLaws.{behind, behind-within}
use Rattle.dns_message_bytes.proofs.QuestionLaws.{question_at, question_rest}
use Rattle.dns_message_bytes.proofs.EdnsLaws.{opt_at}

-- ---- sections

none_at : (buffer : List ℕ) (kind : SectionKind) (place count : ℕ) → count ≡ 0 → ReadsSection buffer kind place count [] place
none_at buffer kind place count none = record { records = refl; count_is = sym none; placed = tt }

question_section : (buffer : List ℕ) (place count : ℕ) (q : Query) (more : List ℕ) → count ≡ 1 → IsSoundQuery q → AreLabels q.name.labels → place ≤ length buffer → drop place buffer ≡ question_form q ++ more
    → ReadsQuestions buffer place count (q ∷ []) (place + length (question_form q))
question_section buffer place count q more one sound are within h = record {
  queries = (place + length (question_form q), record { sound = sound; there = question_at buffer place q more are within h }, refl);
  count_is = sym one;
}

-- an additional section with nothing but an OPT record, if it has one
record Last (buffer : List ℕ) (kind : SectionKind) (place count : ℕ) (edns : Option Edns) : Type 0 where
  records : List Record
  end : ℕ
  section : ReadsSection buffer kind place count records end
  ordinary : ordinary_records records ≡ []
  edns_is : edns_in records ≡ edns
  signature : signature_in records ≡ None

last_at : (buffer : List ℕ) (h : Header) (place count : ℕ) (more : List ℕ) (edns : Option Edns) → ReadsLast more count edns → place ≤ length buffer → drop place buffer ≡ more → Last buffer (additional_kind h) place count edns
last_at buffer h place count more None none within there = record {
  records = [];
  end = place;
  section = none_at buffer (additional_kind h) place count none;
  ordinary = refl;
  edns_is = refl;
  signature = refl;
}
last_at buffer h place count more (Some e) reads within there =
    let opt : ReadsOpt more e reads.1.0 = reads.1.1 in
    let r = opt_record opt.payload opt.ttl opt.options in
    let at = opt_at buffer place opt.payload opt.ttl opt.options reads.1.0 opt.payload_fits opt.ttl_fits opt.len_fits opt.sound within (there ∙ opt.there) in
    record {
      records = r ∷ [];
      end = _;
      section = record { records = (_, at, refl); count_is = sym reads.0; placed = (refl, tt) };
      ordinary = refl;
      edns_is = ap Some (sym opt.is);
      signature = refl;
    }

-- ---- messages

pub request_is_message : (bytes : List ℕ) (m : Message) → ReadsRequest bytes m → ReadsMessage bytes m
request_is_message bytes m r =
    let within : 12 ≤ length bytes = r.header.there.within in
    let n = length (question_form r.question) in
    let inside : 12 + n ≤ length bytes = behind-within bytes 12 n (question_form r.question) r.more refl within r.there in
    let after : drop (12 + n) bytes ≡ r.more = behind bytes 12 n (question_form r.question) r.more refl r.there in
    let counts = λ (f : HeaderCounts → ℕ). ap f r.counts in
    let last = last_at bytes r.head (12 + n) r.head.counts.additionals r.more r.edns r.last inside after in
    subst (λ (x : Message). ReadsMessage bytes x) (sym r.is) (record {
      head = r.head;
      header = r.header;
      queries_end = 12 + n;
      queries = question_section bytes 12 r.head.counts.queries r.question r.more (counts (λ c. c.queries)) r.sound r.labels within r.there;
      answers_end = 12 + n;
      answers = none_at bytes (section_kind r.head) (12 + n) r.head.counts.answers (counts (λ c. c.answers));
      authorities_end = 12 + n;
      authorities = none_at bytes (section_kind r.head) (12 + n) r.head.counts.authorities (counts (λ c. c.authorities));
      last = last.records;
      end = last.end;
      additionals = last.section;
      ordinary = sym last.ordinary;
      edns = sym last.edns_is;
      signature = sym last.signature;
      metadata = refl;
    })

-- ---- what a view shows

extended_alike : (view : Option EdnsView) (edns : Option Edns) (m : Metadata) → MatchEdns view edns → extended_by view m ≡ extended edns m
extended_alike None None m match = refl
extended_alike None (Some e) m match = absurd match
extended_alike (Some v) None m match = absurd match
extended_alike (Some v) (Some e) m match = ap (λ (high : ℕ). record m { response_code = code_of (16 * high + code_number m.response_code) }) match.rcode_high

pub shown : (bytes : List ℕ) (view : RequestView) (head : Header) (count : ℕ) (start more : List ℕ) → DecodesHeader bytes 0 head 12 → head.counts ≡ request_counts count → start ≡ drop 12 bytes
    → start ≡ question_form (question_of view.question) ++ more → IsSoundQuery (question_of view.question) → AreLabels view.question.name.labels
    → (edns : Option Edns) × (ReadsLast more count edns × MatchEdns view.edns edns) → view.metadata ≡ extended_by view.edns head.metadata
    → (m : Message) × (ReadsMessage bytes m × (ReadsRequest bytes m × IsRequestOf view m))
shown bytes view head count start more header counts at there sound labels last metadata =
    let q = question_of view.question in
    let edns = last.0 in
    let count_is : count ≡ head.counts.additionals = sym (ap (λ (c : HeaderCounts). c.additionals) counts) in
    let m : Message = request_message (extended edns head.metadata) q edns in
    let request : ReadsRequest bytes m = record {
      head = head;
      header = header;
      counts = counts ∙ ap request_counts count_is;
      question = q;
      sound = sound;
      labels = labels;
      more = more;
      there = sym at ∙ there;
      edns = edns;
      last = subst (λ (n : ℕ). ReadsLast more n edns) count_is last.1.0;
      is = refl;
    } in
    let show : IsRequestOf view m = record {
      metadata = metadata ∙ extended_alike view.edns edns head.metadata last.1.1;
      queries = refl;
      edns = last.1.1;
    } in
    (m, (request_is_message bytes m request, (request, show)))

-- ---- what is refused

pub no_header : (bytes : List ℕ) (m : Message) → length bytes < 12 → ReadsRequest bytes m → ⊥
no_header bytes m short r = omega (arith, short, r.header.there.within)

same_head : (bytes : List ℕ) (head : Header) (m : Message) → DecodesHeader bytes 0 head 12 → (r : ReadsRequest bytes m) → head ≡ r.head
same_head bytes head m header r = (header_unambiguous bytes 0 head r.head 12 12 header r.header).0

pub no_counts : (bytes : List ℕ) (head : Header) (m : Message) → DecodesHeader bytes 0 head 12 → ((count : ℕ) → head.counts ≡ request_counts count → ⊥) → ReadsRequest bytes m → ⊥
no_counts bytes head m header none r = none r.head.counts.additionals (ap (λ (h : Header). h.counts) (same_head bytes head m header r) ∙ r.counts)

pub no_question : (bytes start : List ℕ) (m : Message) → start ≡ drop 12 bytes → ((q : Query) (more : List ℕ) → AreLabels q.name.labels → start ≡ question_form q ++ more → ⊥) → ReadsRequest bytes m → ⊥
no_question bytes start m at none r = none r.question r.more r.labels (at ∙ r.there)

pub no_last : (bytes start more : List ℕ) (head : Header) (count : ℕ) (q : Query) (m : Message) → DecodesHeader bytes 0 head 12 → head.counts ≡ request_counts count → start ≡ drop 12 bytes → AreLabels q.name.labels → start ≡ question_form q ++ more
    → ((edns : Option Edns) → ReadsLast more count edns → ⊥) → ReadsRequest bytes m → ⊥
no_last bytes start more head count q m header counts at labels there none r =
    let count_is : r.head.counts.additionals ≡ count = sym (ap (λ (h : Header). h.counts.additionals) (same_head bytes head m header r)) ∙ ap (λ (c : HeaderCounts). c.additionals) counts in
    let more_is : r.more ≡ more = question_rest r.question q r.more more r.labels labels (sym r.there ∙ sym at ∙ there) in
    none r.edns (subst (λ (xs : List ℕ). ReadsLast xs count r.edns) more_is (subst (λ (n : ℕ). ReadsLast r.more n r.edns) count_is r.last))

pub no_opt : (bytes : List ℕ) (count : ℕ) → count ≡ 1 → ((e : Edns) (more : List ℕ) → ReadsOpt bytes e more → ⊥) → (edns : Option Edns) → ReadsLast bytes count edns → ⊥
no_opt bytes count one none None last = omega (arith, one, last)
no_opt bytes count one none (Some e) last = none e last.1.0 last.1.1
