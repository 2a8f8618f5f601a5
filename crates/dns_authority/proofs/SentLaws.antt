-- What is left of a reply that is sent.
use Rattle.std.proofs.Common.{◌≡◌, ◌≤◌, ◌∙◌, ℕ, zero, suc, Bool, true, false, cond, ◌||◌, List, [], ◌∷◌, length, take, refl, ap, arith}
use Rattle.std.proofs.lemmas.Bool.{ltb-false}
use Rattle.std.specs.Prelude.{nat_lt}
use Rattle.std.specs.List.{AllByRecursion}
use Rattle.dns_wire.specs.Encodable.{Piece, Position, after, reach}
use Rattle.dns_wire.specs.Items.{fitting_prefix}
use Rattle.dns_messages.specs.declared.op_code.OpCode.{OpCode}
use Rattle.dns_messages.specs.declared.op_code.OpCode.TheVariants as ops
use Rattle.dns_messages.specs.declared.query.Query.{Query}
use Rattle.dns_messages.specs.declared.response_code.ResponseCode.{ResponseCode}
use Rattle.dns_messages.specs.declared.response_code.ResponseCode.TheVariants.{BADVERS, FormErr, NotImp}
use Rattle.dns_messages.specs.declared.message.Message.{Message}
use Rattle.dns_messages.specs.Cut.{answers_end, authorities_end, cut, is_cut, is_shorter, queries_end, record_item, remaining, remaining_code}
use Rattle.dns_messages.specs.Encoding.{Encodes}
use Rattle.dns_messages.specs.Grammar.{ReadsMessage}
use Rattle.dns_messages.specs.Message.{truncated, version_of}
use Rattle.dns_messages.specs.Sound.{IsSound}
use Rattle.dns_zone.specs.Rows.{ZoneContent}
use Rattle.dns_authority.specs.declared.answer.AuthorityAnswer.{AuthorityAnswer}
use Rattle.dns_authority.specs.declared.asked.AnyAnswer.{AnyAnswer}
use Rattle.dns_authority.specs.Additional.{with_additionals}
use Rattle.dns_authority.specs.Origin.{ComesFrom, IsAdditionalRecord, IsAnswerRecord, IsAuthorityRecord}
use Rattle.dns_authority.specs.Step.{refusal}
use Rattle.dns_authority.proofs.OriginLaws.{records_come}
use Rattle.dns_authority.specs.replies.Reply.{answer_to, bare_answer_by_code, bare_answer_to_queries, reply, reply_with}
use Rattle.dns_authority.specs.replies.Sending.{fits, fitting_count, fullest_sent, is_referral, rest_sent, sent, with_fitting, without_additionals}
use Rattle.dns_authority.specs.replies.WholeSets.{set_start}
use Rattle.dns_authority.specs.sent.Sent.{AnswerTheQuestion, HasNoRecords, IsReplyWith, RecordsComeFrom}

-- ---- parts of a section

module _ {X : Type 0} (P : X → Type 0) where
  pub all_taken : (n : ℕ) (xs : List X) → AllByRecursion P xs → AllByRecursion P (take n xs)
  all_taken zero xs all = tt
  all_taken (suc n) [] all = tt
  all_taken (suc n) (x ∷ xs) all = (all.0, all_taken n xs all.1)

  all_fitting : (pieces : X → Position → List Piece) (limit : ℕ) (s : Position) (xs : List X) → AllByRecursion P xs → AllByRecursion P (fitting_prefix pieces limit s xs)
  all_fitting pieces limit s [] all = tt
  all_fitting pieces limit s (x ∷ xs) all = by (nat_lt limit (reach s (pieces x s))) (all_fitting pieces limit (after s (pieces x s)) xs all.1)
    where
      by : (b : Bool) → AllByRecursion P (fitting_prefix pieces limit (after s (pieces x s)) xs)
          → AllByRecursion P (cond b [] (x ∷ fitting_prefix pieces limit (after s (pieces x s)) xs))
      by true more = tt
      by false more = (all.0, more)

-- a front that is not shorter is the whole
not_shorter : {X : Type 0} (pieces : X → Position → List Piece) (limit : ℕ) (s : Position) (xs : List X) → length xs ≤ length (fitting_prefix pieces limit s xs)
    → fitting_prefix pieces limit s xs ≡ xs
not_shorter pieces limit s [] all = refl
not_shorter {X} pieces limit s (x ∷ xs) all = by (nat_lt limit (reach s (pieces x s))) all (not_shorter pieces limit (after s (pieces x s)) xs)
  where
    by : (b : Bool) → length (x ∷ xs) ≤ length (cond b [] (x ∷ fitting_prefix pieces limit (after s (pieces x s)) xs))
        → (length xs ≤ length (fitting_prefix pieces limit (after s (pieces x s)) xs) → fitting_prefix pieces limit (after s (pieces x s)) xs ≡ xs)
        → cond b [] (x ∷ fitting_prefix pieces limit (after s (pieces x s)) xs) ≡ x ∷ xs
    by true fewer more = absurd (omega (arith, fewer))
    by false fewer more = ap (λ (l : List X). x ∷ l) (more (omega (arith, fewer)))

-- ---- what is sent

-- a reply with fewer additional records, or with TC
pub data IsPart (m : Message) : Message → Type 0 where
  fewer : (n : ℕ) → IsPart m (record m { additionals = take n m.additionals })
  bare : IsPart m (record m { additionals = [] })
  all : IsPart m m
  cut_short : IsPart m (truncated m)

fullest_part : (limit : ℕ) (m : Message) → IsPart m (fullest_sent limit m)
fullest_part limit m = by (fits limit (with_fitting limit m))
  where
    by : (b : Bool) → IsPart m (cond b (with_fitting limit m) (without_additionals m))
    by true = fewer (set_start m.additionals (fitting_count limit m))
    by false = bare

rest_part : (limit : ℕ) (m : Message) → IsPart m (rest_sent limit m)
rest_part limit m = by (is_referral m) (fits limit (without_additionals m))
  where
    by : (a b : Bool) → IsPart m (cond a (truncated m) (cond b (fullest_sent limit m) (truncated m)))
    by true b = cut_short
    by false true = fullest_part limit m
    by false false = cut_short

pub sent_part : (limit : ℕ) (m : Message) → IsPart m (sent limit m)
sent_part limit m = by (fits limit m)
  where
    by : (b : Bool) → IsPart m (cond b m (rest_sent limit m))
    by true = all
    by false = rest_part limit m

part_comes : (zones : List ZoneContent) (q : Query) (a : AuthorityAnswer) (m part : Message) → IsPart m part → RecordsComeFrom zones q a m → RecordsComeFrom zones q a part
part_comes zones q a m _ (fewer n) from = record { answers = from.answers; authorities = from.authorities; additionals = all_taken (IsAdditionalRecord zones a.answers a.authorities) n m.additionals from.additionals }
part_comes zones q a m _ bare from = record { answers = from.answers; authorities = from.authorities; additionals = tt }
part_comes zones q a m _ all from = from
part_comes zones q a m _ cut_short from = record { answers = tt; authorities = tt; additionals = tt }

none_taken : {X : Type 0} (xs : List X) (n : ℕ) → xs ≡ [] → take n xs ≡ []
none_taken [] zero e = refl
none_taken [] (suc n) e = refl
none_taken (x ∷ xs) n e = absurd (cc)

part_empty : (m part : Message) → IsPart m part → HasNoRecords m → HasNoRecords part
part_empty m _ (fewer n) none = record { answers = none.answers; authorities = none.authorities; additionals = none_taken m.additionals n none.additionals }
part_empty m _ bare none = record { answers = none.answers; authorities = none.authorities; additionals = refl }
part_empty m _ all none = none
part_empty m _ cut_short none = record { answers = refl; authorities = refl; additionals = refl }

part_whole : (m part : Message) → IsPart m part → part.metadata.truncation ≡ false → part.answers ≡ m.answers
part_whole m _ (fewer n) e = refl
part_whole m _ bare e = refl
part_whole m _ all e = refl
part_whole m _ cut_short e = absurd (cc)

part_code : (m part : Message) → IsPart m part → part.metadata.response_code ≡ m.metadata.response_code
part_code m _ (fewer n) = refl
part_code m _ bare = refl
part_code m _ all = refl
part_code m _ cut_short = refl

-- ---- what is left of it

cut_comes : (zones : List ZoneContent) (q : Query) (a : AuthorityAnswer) (limit : ℕ) (m : Message) → RecordsComeFrom zones q a m → RecordsComeFrom zones q a (cut limit m)
cut_comes zones q a limit m from = record {
  answers = all_fitting (IsAnswerRecord zones q a.answers) record_item limit (queries_end m) m.answers from.answers;
  authorities = all_fitting (IsAuthorityRecord zones q a.answers) record_item limit (answers_end limit m) m.authorities from.authorities;
  additionals = all_fitting (IsAdditionalRecord zones a.answers a.authorities) record_item limit (authorities_end limit m) m.additionals from.additionals;
}

none_fits : {X : Type 0} (pieces : X → Position → List Piece) (limit : ℕ) (s : Position) (xs : List X) → xs ≡ [] → fitting_prefix pieces limit s xs ≡ []
none_fits pieces limit s [] e = refl
none_fits pieces limit s (x ∷ xs) e = absurd (cc)

cut_empty : (limit : ℕ) (m : Message) → HasNoRecords m → HasNoRecords (cut limit m)
cut_empty limit m none = record {
  answers = none_fits record_item limit (queries_end m) m.answers none.answers;
  authorities = none_fits record_item limit (answers_end limit m) m.authorities none.authorities;
  additionals = none_fits record_item limit (authorities_end limit m) m.additionals none.additionals;
}

or_false : (a b : Bool) → (a || b) ≡ false → (a ≡ false) × (b ≡ false)
or_false true b e = absurd (cc)
or_false false b e = (refl, e)

cut_whole : (limit : ℕ) (m : Message) → (cut limit m).metadata.truncation ≡ false → (m.metadata.truncation ≡ false) × ((cut limit m).answers ≡ m.answers)
cut_whole limit m e =
    let both = or_false m.metadata.truncation (is_cut (remaining limit m) m) e in
    let first = or_false (is_shorter (remaining limit m).answers m.answers) _ both.1 in
    (both.0, not_shorter record_item limit (queries_end m) m.answers (ltb-false (length (remaining limit m).answers) (length m.answers) first.0))

-- ---- the answer to a request

-- an answer to a request with these questions: it has no records unless there is exactly one
abbrev pub AnswerComes : List ZoneContent → List Query → AuthorityAnswer → Type 0
AnswerComes zones (q ∷ []) a = ComesFrom zones q a
AnswerComes zones queries a = (a.answers ≡ []) × (a.authorities ≡ []) × (a.additionals ≡ [])

refusal_comes : (zones : List ZoneContent) (queries : List Query) (code : ResponseCode) → AnswerComes zones queries (with_additionals zones (refusal code))
refusal_comes zones [] code = (refl, refl, refl)
refusal_comes zones (q ∷ []) code = record { answers = tt; authorities = tt; additionals = tt }
refusal_comes zones (q ∷ r ∷ more) code = (refl, refl, refl)

pub answer_comes : (any : AnyAnswer) (zones : List ZoneContent) (m : Message) → AnswerComes zones m.queries (answer_to any zones m)
answer_comes any zones m = by (nat_lt 0 (version_of m.edns))
  where
    of_queries : (queries : List Query) → AnswerComes zones queries (with_additionals zones (bare_answer_to_queries any zones queries))
    of_queries [] = refusal_comes zones [] FormErr
    of_queries (q ∷ []) = records_come any zones q
    of_queries (q ∷ r ∷ more) = refusal_comes zones (q ∷ r ∷ more) FormErr

    of_code : (op : OpCode) → AnswerComes zones m.queries (with_additionals zones (bare_answer_by_code any zones m.queries op))
    of_code ops.Query = of_queries m.queries
    of_code other = refusal_comes zones m.queries NotImp

    by : (b : Bool) → AnswerComes zones m.queries (with_additionals zones (cond b (refusal BADVERS) (bare_answer_by_code any zones m.queries m.metadata.op_code)))
    by true = refusal_comes zones m.queries BADVERS
    by false = of_code m.metadata.op_code

-- what is left of the reply with an answer that is sent
reply_comes : (zones : List ZoneContent) (request : Message) (a : AuthorityAnswer) (limit : ℕ) (queries : List Query) → AnswerComes zones queries a
    → AnswerTheQuestion zones queries a (cut limit (sent limit (reply_with request a)))
reply_comes zones request a limit [] none =
    let m : Message = reply_with request a in
    let empty : HasNoRecords m = record { answers = none.0; authorities = none.1; additionals = none.2 } in
    cut_empty limit (sent limit m) (part_empty m (sent limit m) (sent_part limit m) empty)
reply_comes zones request a limit (q ∷ []) from =
    let m : Message = reply_with request a in
    let whole : RecordsComeFrom zones q a m = record { answers = from.answers; authorities = from.authorities; additionals = from.additionals } in
    cut_comes zones q a limit (sent limit m) (part_comes zones q a m (sent limit m) (sent_part limit m) whole)
reply_comes zones request a limit (q ∷ r ∷ more) none =
    let m : Message = reply_with request a in
    let empty : HasNoRecords m = record { answers = none.0; authorities = none.1; additionals = none.2 } in
    cut_empty limit (sent limit m) (part_empty m (sent limit m) (sent_part limit m) empty)

pub reply_is_with : (any : AnyAnswer) (zones : List ZoneContent) (request : Message) (limit : ℕ)
    → IsReplyWith zones request.queries (answer_to any zones request) (cut limit (sent limit (reply any zones request)))
reply_is_with any zones request limit =
    let m : Message = reply any zones request in
    let a : AuthorityAnswer = answer_to any zones request in
    let part : IsPart m (sent limit m) = sent_part limit m in
    record {
      records = reply_comes zones request a limit request.queries (answer_comes any zones request);
      whole = λ e. let left = cut_whole limit (sent limit m) e in left.1 ∙ part_whole m (sent limit m) part left.0;
      code = ap (remaining_code (remaining limit (sent limit m)).edns) (part_code m (sent limit m) part);
    }

pub decoded_reply : (any : AnyAnswer) (zones : List ZoneContent) (request : Message) (limit : ℕ) (bytes : List ℕ)
    → Encodes limit (sent limit (reply any zones request)) bytes → IsSound (sent limit (reply any zones request))
    → (decoded : Message) × (ReadsMessage bytes decoded × IsReplyWith zones request.queries (answer_to any zones request) decoded)
decoded_reply any zones request limit bytes encodes sound =
    (cut limit (sent limit (reply any zones request)), (encodes.decodes sound, reply_is_with any zones request limit))
