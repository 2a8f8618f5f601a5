-- Requests and replies.
use Rattle.std.proofs.Common.{◌≡◌, ◌<◌, ◌≤◌, get_or, ℕ, Bool, true, false, List, [], ◌∷◌, refl, sym, ap, ◌∙◌, subst, length, arith, lit<, Option, Some, None}
use Rattle.std.specs.Prelude.{IfSome}
use Rattle.std.proofs.lemmas.Bool.{true≢false}
use Rattle.std.specs.List.{AllByRecursion}
use Rattle.dns_wire.specs.Name.{name_len}
use Rattle.dns_wire.specs.Encodable.{Plain, start_position}
use Rattle.dns_wire.proofs.SectionLaws.{reach-most}
use Rattle.dns_messages.specs.declared.query.Query.{Query}
use Rattle.dns_messages.specs.declared.message.Message.{Message}
use Rattle.dns_messages.specs.declared.edns.Edns.{Edns}
use Rattle.dns_messages.specs.declared.header.Metadata.{Metadata}
use Rattle.dns_messages.specs.declared.message_type.MessageType.{MessageType}
use Rattle.dns_messages.specs.declared.message_type.MessageType.TheVariants as kinds
use Rattle.dns_messages.specs.declared.op_code.OpCode.TheVariants as ops
use Rattle.dns_messages.specs.declared.response_code.ResponseCode.{ResponseCode}
use Rattle.dns_messages.specs.Header.{code_number, code_of}
use Rattle.dns_messages.proofs.HeaderLaws.{peeked}
use Rattle.dns_messages.specs.Edns.{IsSoundEdns}
use Rattle.dns_messages.specs.Encoding.{Encodes}
use Rattle.dns_messages.specs.Cut.{cut, cut_form, front_reach, twelve_zeros, queries_pieces}
use Rattle.dns_messages.specs.Sound.{IsSound, IsSoundIn, IsSoundQuery, IsSoundMetadata, IsExtendedBy, is_update_code}
use Rattle.dns_messages.specs.Grammar.{ReadsMessage, extended}
use Rattle.dns_records.specs.Record.{Record}
use Rattle.dns_zone.specs.Rows.{ZoneContent}
use Rattle.dns_zone.specs.Answer.{answer, IsSoundAnswer}
use Rattle.dns_zone.specs.Section.{borrowed_answer}
use Rattle.dns_zone.specs.Serving.{is_query, has_query_header, bare_reply, query_reply, reply_metadata, reply_edns, reply_to_queries, reply_by_code, reply, reply_limit, IsReplyTo}
use Rattle.dns_zone.specs.declared.zone.answer.AnswerRef.{AnswerRef}
use Rattle.dns_zone.specs.declared.transport.Transport.{Transport}

-- ---- the header

-- the header decides whether a message is a query
header_of_read : (bytes : List ℕ) (m : Message) → ReadsMessage bytes m → has_query_header bytes ≡ is_query (Some m.metadata)
header_of_read bytes m r =
    ap is_query (peeked bytes r.head r.header)
    ∙ (same m.edns r.head.metadata ∙ ap (λ (h : Metadata). is_query (Some h)) (sym r.metadata))
  where
    same : (e : Option Edns) (h : Metadata) → is_query (Some h) ≡ is_query (Some (extended e h))
    same None h = refl
    same (Some e) h = refl

-- without the header of a query, a message is a response
pub no_query : (bytes : List ℕ) → has_query_header bytes ≡ false → (m : Message) → ReadsMessage bytes m
    → m.metadata.message_type ≡ kinds.Response
no_query bytes e m r = by m.metadata.message_type (sym (header_of_read bytes m r) ∙ e)
  where
    by : (kind : MessageType) → elim kind [ kinds.Query ↦ true | kinds.Response ↦ false ] ≡ false → kind ≡ kinds.Response
    by kinds.Query h = absurd (true≢false h)
    by kinds.Response h = refl

-- with it, a message is a query
pub a_query : (bytes : List ℕ) → has_query_header bytes ≡ true → (m : Message) → ReadsMessage bytes m
    → m.metadata.message_type ≡ kinds.Query
a_query bytes e m r = by m.metadata.message_type (sym (header_of_read bytes m r) ∙ e)
  where
    by : (kind : MessageType) → elim kind [ kinds.Query ↦ true | kinds.Response ↦ false ] ≡ true → kind ≡ kinds.Query
    by kinds.Query h = refl
    by kinds.Response h = absurd (true≢false (sym h))

-- ---- header and question of a reply fit every datagram

pub question_fits : (zone : ZoneContent) (m : Message) (q : Query) → name_len q.name.labels ≤ 255
    → front_reach (query_reply zone m q) ≤ 512
question_fits zone m q h =
    omega (arith, reach-most start_position (Plain twelve_zeros ∷ queries_pieces (query_reply zone m q)), h)

pub bare_fits : (m : Message) (code : ResponseCode) → front_reach (bare_reply m code) ≤ 512
bare_fits m code = omega (arith, reach-most start_position (Plain twelve_zeros ∷ []))

-- ---- replies can be encoded and decoded again

edns_sound : (e : Option Edns) → IfSome (reply_edns e) IsSoundEdns
edns_sound None = tt
edns_sound (Some e) = record {
  rcode_fits = lit< tt;
  version_fits = lit< tt;
  z_fits = lit< tt;
  payload_least = omega arith;
  payload_fits = lit< tt;
  options = record { values = (tt, tt); fields = refl; type_fits = lit< tt; type_named = refl; fits = lit< tt };
}

extended_sound : (e : Option Edns) (code : ResponseCode) → code_number code < 16 → IsExtendedBy (reply_edns e) code
extended_sound None code fits = fits
extended_sound (Some e) code fits = omega (arith, fits)

metadata_sound : (m : Message) (code : ResponseCode) → IsSound m → code_number code < 16
    → code_of (code_number code) ≡ code → IsSoundMetadata (reply_metadata m.metadata code)
metadata_sound m code request fits named = record {
  id_fits = request.metadata.id_fits;
  op_fits = request.metadata.op_fits;
  op_named = request.metadata.op_named;
  code_fits = omega (arith, fits);
  code_named = named;
}

pub bare_sound : (m : Message) (code : ResponseCode) → code_number code < 16 → code_of (code_number code) ≡ code
    → IsSound m → IsSound (bare_reply m code)
bare_sound m code fits named request = record {
  metadata = metadata_sound m code request fits named;
  queries = tt;
  answers = tt;
  authorities = tt;
  additionals = tt;
  edns = edns_sound m.edns;
  extended = extended_sound m.edns code fits;
  signature = tt;
}

pub query_sound : (zone : ZoneContent) (m : Message) (q : Query) → m.metadata.op_code ≡ ops.Query → m.queries ≡ q ∷ []
    → (q.name.is_fqdn ≡ true → IsSoundAnswer (answer zone q)) → IsSound m → IsSound (query_reply zone m q)
query_sound zone m q op one sound request =
    let asked : IsSoundQuery q = (subst (λ (qs : List Query). AllByRecursion IsSoundQuery qs) one request.queries).0 in
    let a = sound asked.fqdn in
    let no_update : false ≡ is_update_code m.metadata.op_code = sym (ap is_update_code op) in
    let placed = (λ (rs : List Record) (h : AllByRecursion (IsSoundIn false) rs).
    subst (λ (x : Bool). AllByRecursion (IsSoundIn x) rs) no_update h) in
    record {
      metadata = metadata_sound m (answer zone q).code request a.code_fits a.code_named;
      queries = (asked, tt);
      answers = placed _ a.answers;
      authorities = placed _ a.authorities;
      additionals = tt;
      edns = edns_sound m.edns;
      extended = extended_sound m.edns (answer zone q).code a.code_fits;
      signature = tt;
    }

-- ---- the reply to the only question

pub only_item : {A : Type 0} (xs : List A) (x : A) → 1 ≤ length xs → length xs < 2 → x ≡ get_or xs 0 x → xs ≡ x ∷ []
only_item [] x least below e = absurd (omega (arith, least))
only_item {A} (y ∷ []) x least below e = ap (λ (z : A). z ∷ []) (sym e)
only_item (y ∷ z ∷ more) x least below e = absurd (omega (arith, below))

-- the reply that repeats the only question, with the borrowed answer to it
pub is_query_reply : (zone : ZoneContent) (m : Message) (q : Query) (queries : List Query) (a : AnswerRef) → queries ≡ q ∷ [] → borrowed_answer a ≡ answer zone q
    → ◌≡◌ {A = Message} (record (bare_reply m a.code) { queries = queries; answers = (borrowed_answer a).answers; authorities = (borrowed_answer a).authorities }) (query_reply zone m q)
is_query_reply zone m q queries a one e = λ i. record (bare_reply m (e i).code) { queries = one i; answers = (e i).answers; authorities = (e i).authorities }

pub is_reply : (zone : ZoneContent) (m : Message) (q : Query) → m.metadata.op_code ≡ ops.Query → m.queries ≡ q ∷ [] → query_reply zone m q ≡ reply zone m
is_reply zone m q op one = sym (ap (reply_by_code zone m) op ∙ ap (reply_to_queries zone m) one)

-- ---- the bytes of the reply

pub replied : (zone : ZoneContent) (transport : Transport) (m whole : Message) (limit : ℕ) (out : List ℕ) → whole ≡ reply zone m → limit ≡ reply_limit transport m
    → IsSound whole → Encodes limit whole out → IsReplyTo zone transport m out
replied zone transport m whole limit out w l sound encodes = record {
  form_is = encodes.form_is ∙ (λ i. cut_form (l i) (w i));
  decodes = subst (ReadsMessage out) (λ i. cut (l i) (w i)) (encodes.decodes sound);
  within = subst (λ (most : ℕ). length out ≤ most) l encodes.within;
}
