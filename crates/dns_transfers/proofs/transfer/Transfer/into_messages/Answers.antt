use Rattle.std.proofs.Common.{◌∙◌, ap, map}
use Rattle.std.proofs.lemmas.List.{map-append}
use Rattle.std.proofs.lemmas.Result.{err_from_is_err_and}
use Rattle.std.specs.Global.{Vec}
use Rattle.std.specs.Prelude.{ℕ}
use Rattle.dns_transfers.proofs.SendingLaws.{all_made, cannot_send, one_made, same_error}
use Rattle.dns_transfers.proofs.transfer.Transfer.into_messages.Goals as goal

pub loop-messages-preserved : goal.loop-messages-preserved
loop-messages-preserved g c =
    one_made _ _ _ _ _ c.in-Some.message.items c.loop-messages.invariant
    (rw c.in-Some.is at c.in_ok-message.ensures.message)
    (ap (map (λ (bytes : Vec ℕ). bytes.items)) c.in_ok-push-in-Some.ensures.items ∙ map-append (λ (bytes : Vec ℕ). bytes.items) c.loop-messages.messages.items _)

pub returns-in-None-clause-messages : goal.returns-in-None-clause-messages
returns-in-None-clause-messages g c =
    let over = rw c.in-None.is at c.in_ok-message.ensures.message in
    all_made _ _ _ c.loop-messages.invariant over.0

pub returns-in_err-message-clause-too_long : goal.returns-in_err-message-clause-too_long
returns-in_err-message-clause-too_long g c =
    let p = err_from_is_err_and c.from_residual.result c.from_residual.ensures.1 in
    rw (p.1, p.2) (λ long. cannot_send _ _ _ c.loop-messages.invariant (c.in_err-message.ensures.too_long (same_error _ _ long)))
