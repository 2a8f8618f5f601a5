use Rattle.dns_notify.proofs.MessageLaws.{decided}
use Rattle.dns_notify.proofs.notifier.response.is_response.Goals as goal

pub returns-in-Ok : goal.returns-in-Ok
returns-in-Ok c =
    decided c.args.id c.args.origin.now c.args.bytes.now c.in-Ok.message (λ n other. c.messages_decode_unambiguously.ensures.same c.args.bytes.now n c.in-Ok.message other c.in-Ok.ensures.read)
    c.in-Ok.ensures.read c.responds.result c.responds.ensures

pub returns-in_default : goal.returns-in_default
returns-in_default c = λ m reads.
    absurd (c.messages_decode_unambiguously.ensures.not_refused c.args.bytes.now m c.in-Err.error reads (c.in-Err.ensures.refused c.in_default.not-Memory))
