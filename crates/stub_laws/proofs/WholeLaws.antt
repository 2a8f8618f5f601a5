-- A reply without TC is whole, and holds the answer to the question.
use Rattle.std.proofs.Common.{◌≡◌, ℕ, ◌≤◌, ◌%◌, ◌==◌, ◌||◌, zero, suc, nat_lt, not, Bool, true, false, cond, List, [], ◌∷◌, length, Option, Some, None, refl, sym, ap, subst, ◌∙◌, arith}
use Rattle.std.proofs.lemmas.Bool.{true≢false}
use Rattle.std.proofs.lemmas.Bool.Decides.{nat_tests}
use Rattle.dns_wire.specs.Encodable.{Piece, Position, after, reach}
use Rattle.dns_wire.specs.Items.{fitting_prefix}
use Rattle.dns_wire.specs.codes.DNSClass.{class_number}
use Rattle.dns_wire.specs.codes.RecordType.{type_number}
use Rattle.dns_wire.specs.declared.codes.record_type.RecordType.{RecordType}
use Rattle.dns_wire.specs.declared.codes.record_type.RecordType.TheVariants as types
use Rattle.dns_names.specs.Compare.{at_or_below}
use Rattle.dns_names.specs.Name.{DomainName}
use Rattle.dns_records.specs.Record.{Record}
use Rattle.dns_records.specs.Rows.{rows_at, some_row_below}
use Rattle.dns_records.specs.declared.row.Row.{Row}
use Rattle.dns_messages.specs.Cut.{answers_end, authorities_end, cut, is_cut, is_shorter, queries_end, record_item, remaining, remaining_code}
use Rattle.dns_messages.specs.Header.{code_number, code_of}
use Rattle.dns_messages.specs.declared.edns.Edns.{Edns}
use Rattle.dns_messages.specs.declared.message.Message.{Message}
use Rattle.dns_messages.specs.declared.op_code.OpCode.TheVariants as ops
use Rattle.dns_messages.specs.declared.query.Query.{Query}
use Rattle.dns_messages.specs.declared.response_code.ResponseCode.{ResponseCode}
use Rattle.dns_messages.specs.declared.response_code.ResponseCode.TheVariants.{NoError, NotImp, NXDomain, Refused}
use Rattle.dns_zone.specs.Answer.{after_records, answer, answer_at, answer_by, bare, is_no_row_type, max_aliases, next_owner, record_of, rest_at}
use Rattle.dns_zone.specs.Rows.{ZoneContent}
use Rattle.dns_zone.specs.Serving.{query_reply, reply, reply_by_code, reply_limit, reply_to_queries, sent_reply}
use Rattle.dns_zone.specs.declared.transport.Transport.{Transport}
use Rattle.dns_zone.specs.declared.zone.answer.Answer.{Answer}
use Rattle.stub_laws.specs.history.Answered.{HoldsAnswer}

-- ---- codes

-- the header holds the code
abbrev pub IsHeaderCode : ResponseCode → Type 0
IsHeaderCode code = code_of (code_number code % 16) ≡ code

rest-code : (answer_of : DomainName → Answer) → ((owner : DomainName) → IsHeaderCode (answer_of owner).code) → (o : Option DomainName)
    → IsHeaderCode (rest_at answer_of o).code
rest-code answer_of all None = refl
rest-code answer_of all (Some owner) = all owner

module _ (zone : ZoneContent) where
  existing-code : (b : Bool) → IsHeaderCode (cond b NoError NXDomain)
  existing-code true = refl
  existing-code false = refl

  code-by : (owner : DomainName) (rows aliases : List Row) (on_alias : Row → Answer) → ((alias : Row) → IsHeaderCode (on_alias alias).code)
      → IsHeaderCode (answer_by zone owner rows aliases on_alias).code
  code-by owner [] [] on_alias next = existing-code (some_row_below zone.rows owner.labels)
  code-by owner [] (alias ∷ more) on_alias next = next alias
  code-by owner (row ∷ rows) aliases on_alias next = refl

  code-at : (t : RecordType) (links : ℕ) (owner : DomainName) → IsHeaderCode (answer_at links zone t owner).code
  unfolding answer_at
  code-at t zero owner =
      code-by owner (rows_at zone.rows owner.labels t) (rows_at zone.rows owner.labels types.CNAME) (λ alias. bare NoError) (λ alias. refl)
  code-at t (suc links) owner =
      code-by owner (rows_at zone.rows owner.labels t) (rows_at zone.rows owner.labels types.CNAME)
      (λ alias. after_records (record_of owner alias ∷ []) (rest_at (answer_at links zone t) (next_owner zone.origin alias.rdata)))
      (λ alias. rest-code (answer_at links zone t) (code-at t links) (next_owner zone.origin alias.rdata))

  answer-code : (q : Query) → IsHeaderCode (answer zone q).code
  answer-code q = by (is_no_row_type (type_number q.query_type)) (not (class_number q.query_class == 1) || not (at_or_below zone.origin.labels q.name.labels))
    where
      by : (a b : Bool) → IsHeaderCode (cond a (bare NotImp) (cond b (bare Refused) (answer_at max_aliases zone q.query_type q.name))).code
      by true b = refl
      by false true = refl
      by false false = code-at q.query_type max_aliases q.name

remaining-same : (o : Option Edns) (code : ResponseCode) → IsHeaderCode code → remaining_code o code ≡ code
remaining-same None code h = h
remaining-same (Some e) code h = refl

-- ---- nothing was dropped

or-parts : (a b : Bool) → a || b ≡ false → (a ≡ false) × (b ≡ false)
or-parts true b h = absurd (true≢false h)
or-parts false b h = (refl, h)

not-less : (m n : ℕ) → nat_lt m n ≡ false → n ≤ m
not-less m n h = grind (arith, nat_tests)

prefix-whole : (pieces : Record → Position → List Piece) (limit : ℕ) (s : Position) (xs : List Record) → length xs ≤ length (fitting_prefix pieces limit s xs)
    → fitting_prefix pieces limit s xs ≡ xs
prefix-whole pieces limit s [] h = refl
prefix-whole pieces limit s (x ∷ xs) h = by (nat_lt limit (reach s (pieces x s))) (prefix-whole pieces limit (after s (pieces x s)) xs) h
  where
    by : (b : Bool) → (length xs ≤ length (fitting_prefix pieces limit (after s (pieces x s)) xs) → fitting_prefix pieces limit (after s (pieces x s)) xs ≡ xs)
        → suc (length xs) ≤ length (cond b [] (x ∷ fitting_prefix pieces limit (after s (pieces x s)) xs))
        → cond b [] (x ∷ fitting_prefix pieces limit (after s (pieces x s)) xs) ≡ x ∷ xs
    by true rest h = absurd (omega arith)
    by false rest h = ap (λ (ys : List Record). x ∷ ys) (rest (omega arith))

pub record IsWholeCut (cut all : Message) : Type 0 where
  pub answers : cut.answers ≡ all.answers
  pub authorities : cut.authorities ≡ all.authorities
  pub additionals : cut.additionals ≡ all.additionals

whole-cut : (limit : ℕ) (m : Message) → (cut limit m).metadata.truncation ≡ false → IsWholeCut (cut limit m) m
whole-cut limit m h =
    let some : Message = remaining limit m in
    let cuts = (or-parts m.metadata.truncation (is_cut some m) h).1 in
    let first = or-parts (is_shorter some.answers m.answers) _ cuts in
    let second = or-parts (is_shorter some.authorities m.authorities) _ first.1 in
    let third = or-parts (is_shorter some.additionals m.additionals) _ second.1 in
    record {
      answers = prefix-whole record_item limit (queries_end m) m.answers (not-less (length some.answers) (length m.answers) first.0);
      authorities = prefix-whole record_item limit (answers_end limit m) m.authorities (not-less (length some.authorities) (length m.authorities) second.0);
      additionals = prefix-whole record_item limit (authorities_end limit m) m.additionals (not-less (length some.additionals) (length m.additionals) third.0);
    }

-- ---- replies

pub is-query-reply : (zone : ZoneContent) (m : Message) (q : Query) → m.metadata.op_code ≡ ops.Query → m.queries ≡ q ∷ [] → reply zone m ≡ query_reply zone m q
is-query-reply zone m q code only =
    ap (reply_by_code zone m) code ∙ ap (reply_to_queries zone m) only

-- a reply to a question that is sent without TC holds the answer
pub holds-answer : (zone : ZoneContent) (transport : Transport) (m : Message) (q : Query) → m.metadata.op_code ≡ ops.Query → m.queries ≡ q ∷ []
    → (sent_reply zone transport m).metadata.truncation ≡ false → HoldsAnswer zone q (sent_reply zone transport m)
holds-answer zone transport m q code only h =
    subst (λ (r : Message). HoldsAnswer zone q (cut (reply_limit transport m) r)) (sym (is-query-reply zone m q code only))
    (by (query_reply zone m q) refl refl refl refl refl
    (subst (λ (r : Message). (cut (reply_limit transport m) r).metadata.truncation ≡ false) (is-query-reply zone m q code only) h))
  where
    by : (r : Message) → r.queries ≡ q ∷ [] → r.metadata.response_code ≡ (answer zone q).code → r.answers ≡ (answer zone q).answers
        → r.authorities ≡ (answer zone q).authorities → r.additionals ≡ []
        → (cut (reply_limit transport m) r).metadata.truncation ≡ false → HoldsAnswer zone q (cut (reply_limit transport m) r)
    by r queries code answers authorities additionals h =
        let whole = whole-cut (reply_limit transport m) r h in
        record {
          queries = queries;
          code = remaining-same (remaining (reply_limit transport m) r).edns r.metadata.response_code
              (subst IsHeaderCode (sym code) (answer-code zone q)) ∙ code;
          answers = whole.answers ∙ answers;
          authorities = whole.authorities ∙ authorities;
          additionals = whole.additionals ∙ additionals;
        }
