-- Replies that no zone decides.
use Rattle.std.proofs.Common.{◌≡◌, true, ◌<◌, ◌≤◌, ℕ, List, [], ◌∷◌, sym, ap, ◌∙◌, subst, length, arith}
use Rattle.std.specs.List.{AllByRecursion}
use Rattle.dns_wire.specs.Name.{name_len}
use Rattle.dns_wire.specs.Encodable.{Plain, start_position}
use Rattle.dns_wire.proofs.SectionLaws.{reach-most}
use Rattle.dns_messages.specs.declared.op_code.OpCode.{OpCode}
use Rattle.dns_messages.specs.declared.op_code.OpCode.TheVariants as ops
use Rattle.dns_messages.specs.declared.query.Query.{Query}
use Rattle.dns_messages.specs.declared.message.Message.{Message}
use Rattle.dns_messages.specs.declared.response_code.ResponseCode.{ResponseCode}
use Rattle.dns_messages.specs.Header.{code_number, code_of}
use Rattle.dns_messages.specs.Encoding.{Encodes}
use Rattle.dns_messages.specs.Cut.{cut, cut_form, front_reach, twelve_zeros, queries_pieces}
use Rattle.dns_messages.specs.Message.{truncated}
use Rattle.dns_messages.specs.Sound.{IsSound, IsSoundQuery}
use Rattle.dns_messages.specs.Grammar.{ReadsMessage}
use Rattle.dns_zone.specs.Answer.{bare}
use Rattle.dns_zone.specs.Section.{borrowed_answer}
use Rattle.dns_zone.specs.Serving.{bare_reply, reply_limit}
use Rattle.dns_zone.specs.Request.{IsEncodedReply, only_query, repeated_by_code, repeated_queries, reply_without_zone}
use Rattle.dns_zone.specs.declared.zone.answer.AnswerRef.{AnswerRef}
use Rattle.dns_zone.specs.declared.transport.Transport.{Transport}
use Rattle.dns_zone.proofs.ServingLaws.{bare_fits, bare_sound}

-- ---- header and question fit every datagram

-- a reply with these questions
abbrev with_queries : Message → ResponseCode → List Query → Message
with_queries m code queries = record (bare_reply m code) { queries = queries }

one_fits : (m : Message) (code : ResponseCode) (q : Query) → name_len q.name.labels ≤ 255 → front_reach (with_queries m code (q ∷ [])) ≤ 512
one_fits m code q h =
    omega (arith, reach-most start_position (Plain twelve_zeros ∷ queries_pieces (with_queries m code (q ∷ []))), h)

only_fits : (m : Message) (code : ResponseCode) (queries : List Query) → AllByRecursion (λ q. name_len q.name.labels ≤ 255) (only_query queries)
    → front_reach (with_queries m code (only_query queries)) ≤ 512
only_fits m code [] short = bare_fits m code
only_fits m code (q ∷ []) short = one_fits m code q short.0
only_fits m code (q ∷ r ∷ more) short = bare_fits m code

-- the reply to a request that is a query
pub query_fits : (m : Message) (queries result : List Query) → m.metadata.op_code ≡ ops.Query → m.queries ≡ queries → result ≡ only_query queries
    → AllByRecursion (λ q. name_len q.name.labels ≤ 255) result → (code : ResponseCode) → front_reach (reply_without_zone m code) ≤ 512
query_fits m queries result op e is short code =
    let whole : only_query queries ≡ repeated_queries m =
    ap only_query (sym e) ∙ sym (ap (λ (o : OpCode). repeated_by_code o m.queries) op) in
    subst (λ (qs : List Query). front_reach (with_queries m code qs) ≤ 512) whole
    (only_fits m code queries (subst (λ (qs : List Query). AllByRecursion (λ q. name_len q.name.labels ≤ 255) qs) is short))

-- the reply to another request
pub other_fits : (m : Message) → repeated_queries m ≡ [] → (code : ResponseCode) → front_reach (reply_without_zone m code) ≤ 512
other_fits m none code = subst (λ (qs : List Query). front_reach (with_queries m code qs) ≤ 512) (sym none) (bare_fits m code)

-- ---- the reply can be encoded and decoded again

only_sound : (queries : List Query) → AllByRecursion IsSoundQuery queries → AllByRecursion IsSoundQuery (only_query queries)
only_sound [] h = tt
only_sound (q ∷ []) h = h
only_sound (q ∷ r ∷ more) h = tt

repeated_sound : (op : OpCode) (queries : List Query) → AllByRecursion IsSoundQuery queries
    → AllByRecursion IsSoundQuery (repeated_by_code op queries)
repeated_sound ops.Query queries h = only_sound queries h
repeated_sound other queries h = tt

pub without_sound : (m : Message) (code : ResponseCode) → code_number code < 16 → code_of (code_number code) ≡ code
    → IsSound m → IsSound (reply_without_zone m code)
without_sound m code fits named request =
    let b = bare_sound m code fits named request in
    record {
      metadata = b.metadata;
      queries = repeated_sound m.metadata.op_code m.queries request.queries;
      answers = tt;
      authorities = tt;
      additionals = tt;
      edns = b.edns;
      extended = b.extended;
      signature = tt;
    }

-- ---- the same with TC

-- the message with TC
abbrev pub with_truncation : Message → Message
with_truncation m = record m { metadata = record m.metadata { truncation = true } }

pub truncated_sound : (m : Message) → IsSound m → IsSound (truncated m)
truncated_sound m s = record {
  metadata = record {
    id_fits = s.metadata.id_fits;
    op_fits = s.metadata.op_fits;
    op_named = s.metadata.op_named;
    code_fits = s.metadata.code_fits;
    code_named = s.metadata.code_named;
  };
  queries = s.queries;
  answers = tt;
  authorities = tt;
  additionals = tt;
  edns = s.edns;
  extended = s.extended;
  signature = tt;
}

-- the reply that borrows the questions of a request and has an answer without records
pub is_without : (m : Message) (code : ResponseCode) (queries : List Query) (a : AnswerRef) → queries ≡ repeated_queries m → borrowed_answer a ≡ bare code
    → ◌≡◌ {A = Message} (record (bare_reply m a.code) { queries = queries; answers = (borrowed_answer a).answers; authorities = (borrowed_answer a).authorities }) (reply_without_zone m code)
is_without m code queries a one e = λ i. record (bare_reply m (e i).code) { queries = one i; answers = (e i).answers; authorities = (e i).authorities }

-- ---- its bytes

pub encoded : (transport : Transport) (m whole is : Message) (limit : ℕ) (out : List ℕ) → whole ≡ is → limit ≡ reply_limit transport m
    → IsSound whole → Encodes limit whole out → IsEncodedReply is transport m out
encoded transport m whole is limit out w l sound encodes = record {
  form_is = encodes.form_is ∙ (λ i. cut_form (l i) (w i));
  decodes = subst (ReadsMessage out) (λ i. cut (l i) (w i)) (encodes.decodes sound);
  within = subst (λ (most : ℕ). length out ≤ most) l encodes.within;
}
