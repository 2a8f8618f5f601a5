-- What is sent of a reply whose answers and authority records do not fit.
use Rattle.std.proofs.Common.{◌≡◌, ◌||◌, Bool, true, false, not, cond, List, ℕ, Option, None, refl, sym, ap, ◌∙◌, subst, []}
use Rattle.dns_messages.specs.declared.edns.Edns.{Edns}
use Rattle.dns_messages.specs.declared.header.Metadata.{Metadata}
use Rattle.dns_messages.specs.declared.message.Message.{Message}
use Rattle.dns_messages.specs.declared.query.Query.{Query}
use Rattle.dns_messages.specs.Cut.{is_shorter, listed, remaining}
use Rattle.dns_messages.specs.Encoding.{Encodes}
use Rattle.dns_messages.specs.Message.{truncated}
use Rattle.dns_records.specs.Record.{Record}
use Rattle.dns_zone.specs.Rows.{ZoneContent}
use Rattle.dns_authority.specs.declared.answer.AuthorityAnswer.{AuthorityAnswer}
use Rattle.dns_authority.specs.Additional.{with_additionals}
use Rattle.dns_authority.specs.replies.Reply.{edns_with, reply_with}
use Rattle.dns_authority.specs.replies.Sending.{IsTruncatedAt, fits, fullest_sent, is_referral, rest_sent, sections_fit, sent}

-- what is dropped beside what does not fit makes no difference
also : (t a b c : Bool) → not (t || (a || (b || false))) ≡ false → not (t || (a || (b || c))) ≡ false
also true a b c e = refl
also false true b c e = refl
also false false true c e = refl
also false false false c e = absurd (cc)

-- a message without signature, of its parts
abbrev message_of : Metadata → List Query → List Record → List Record → List Record → Option Edns → Message
message_of metadata queries answers authorities additionals edns = record {
  metadata = metadata;
  queries = queries;
  answers = answers;
  authorities = authorities;
  additionals = additionals;
  edns = edns;
  signature = None;
}

module _ (limit : ℕ) (metadata : Metadata) (queries : List Query) (answers authorities : List Record) where
  unfit : (additionals : List Record) (edns : Option Edns) → sections_fit limit (message_of metadata queries answers authorities additionals edns) ≡ false
      → fits limit (message_of metadata queries answers authorities additionals edns) ≡ false
  unfit additionals edns e =
      let m : Message = message_of metadata queries answers authorities additionals edns in
      also metadata.truncation (is_shorter (remaining limit m).answers answers) (is_shorter (remaining limit m).authorities authorities)
      (is_shorter (remaining limit m).additionals additionals || (is_shorter (listed (remaining limit m).edns) (listed edns) || is_shorter (listed (remaining limit m).signature) (listed {X = Record} None)))
      e

  -- it is sent with TC, whatever else it has
  pub sent_truncated : (additionals : List Record) (edns : Option Edns) → sections_fit limit (message_of metadata queries answers authorities additionals edns) ≡ false
      → sent limit (message_of metadata queries answers authorities additionals edns) ≡ truncated (message_of metadata queries answers authorities additionals edns)
  sent_truncated additionals edns e =
      ap (λ (b : Bool). cond b m (rest_sent limit m)) (unfit additionals edns e)
      ∙ ap (λ (b : Bool). cond (is_referral m) (truncated m) (cond b (fullest_sent limit m) (truncated m))) (unfit [] edns e)
      ∙ same (is_referral m)
    where
      m : Message
      m = message_of metadata queries answers authorities additionals edns

      same : (b : Bool) → cond b (truncated m) (truncated m) ≡ truncated m
      same true = refl
      same false = refl

-- so the additional section of its answer is not needed
pub truncated_for : (limit : ℕ) (request : Message) (zones : List ZoneContent) (a : AuthorityAnswer) (edns : Option Edns) (out : List ℕ)
    → edns ≡ edns_with a.code request.edns → IsTruncatedAt limit (record (reply_with request a) { edns = edns }) out
    → Encodes limit (sent limit (reply_with request (with_additionals zones a))) out
truncated_for limit request zones a edns out is short =
    let m : Message = reply_with request (with_additionals zones a) in
    subst (λ (n : Message). Encodes limit n out)
    (ap (λ (e : Option Edns). record (truncated m) { edns = e }) is ∙ sym (sent_truncated limit m.metadata m.queries m.answers m.authorities m.additionals m.edns short.0))
    short.1
