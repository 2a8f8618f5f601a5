use Rattle.std.proofs.Common.{◌<◌, ◌≤◌, ◌∙◌, ℕ, subst, sym}
use Rattle.std.proofs.lemmas.Bool.{ltb-false, ltb-true}
use Rattle.dns_authority.specs.replies.TooMany.{record_count}
use Rattle.dns_authority.proofs.replies.reply.reply_to_long_answer.Goals as goal

pub returns-then-has_fewer_records : goal.returns-then-has_fewer_records
returns-then-has_fewer_records c =
    subst (λ (n : ℕ). record_count c.args.answer.now < n) c.too_many_records.ensures (ltb-true _ _ (sym c.has_fewer_records.ensures ∙ c.if-has_fewer_records.true))

pub returns : goal.returns
returns c = (
  subst (λ (n : ℕ). n ≤ record_count c.args.answer.now) c.too_many_records.ensures (ltb-false _ _ (sym c.has_fewer_records.ensures ∙ c.if-has_fewer_records.false)),
  c.in_ok-truncated_reply.ensures,
)
