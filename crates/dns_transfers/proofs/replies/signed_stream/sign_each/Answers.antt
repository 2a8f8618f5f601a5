use Rattle.std.proofs.Common.{◌∙◌, arith}
use Rattle.std.proofs.lemmas.List.{length-set}
use Rattle.dns_transfers.proofs.SignedLaws.{all_signed, more_signed, not_signed}
use Rattle.dns_transfers.proofs.replies.signed_stream.sign_each.Goals as goal

pub loop-message-preserved : goal.loop-message-preserved
loop-message-preserved c = (
  length-set c.loop-message.messages c.loop-message.message-index c.sign_next.new.message ∙ c.loop-message.invariant.0,
  more_signed c.args.key.now c.args.time c.args.request_code.now c.args.messages.now c.loop-message.message-index c.loop-message.signer c.sign_next.new.self c.loop-message.messages _ c.sign_next.new.message
      (omega arith) c.loop-message.invariant.0 c.loop-message.invariant.1 (c.in_ok-sign_next.ensures.signed c.if-not-branch.false),
)

pub returns-then-not-branch-clause-full : goal.returns-then-not-branch-clause-full
returns-then-not-branch-clause-full c = λ no.
    not_signed c.args.key.now c.args.time c.args.request_code.now c.args.messages.now c.loop-message.message-index c.loop-message.signer c.loop-message.messages _
    (omega arith) c.loop-message.invariant.0 c.loop-message.invariant.1 (c.in_ok-sign_next.ensures.full c.if-not-branch.true)

pub returns-clause-signed : goal.returns-clause-signed
returns-clause-signed c = λ yes.
    all_signed c.args.key.now c.args.time c.args.request_code.now c.args.messages.now c.loop-message.message-index c.loop-message.signer c.loop-message.messages
    c.loop-message-test.false c.loop-message.invariant.0 c.loop-message.invariant.1
