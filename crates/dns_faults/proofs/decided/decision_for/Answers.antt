use Rattle.std.proofs.Common.{ap, ◌∙◌, sym}
use Rattle.dns_messages.specs.declared.message.Message.{Message}
use Rattle.dns_faults.proofs.DecidedLaws.{decides}
use Rattle.dns_faults.proofs.decided.decision_for.Goals as goal

pub returns-in_default : goal.returns-in_default
returns-in_default c = λ m reads asks.
    absurd (c.messages_decode_unambiguously.ensures.not_refused c.args.bytes.now m c.in-Err.error reads
    (c.in-Err.ensures.refused c.in_default.not-Memory))

pub returns-in-Query : goal.returns-in-Query
returns-in-Query c =
    decides c.args.table.now c.args.bytes.now c.args.transport c.in-Ok.request c.in-Ok.ensures.read c.in-Query.is
    (λ other reads. c.messages_decode_unambiguously.ensures.same c.args.bytes.now other c.in-Ok.request reads c.in-Ok.ensures.read)
    c.decide.result c.decide.ensures.some c.decide.ensures.none

pub returns-in-Response : goal.returns-in-Response
returns-in-Response c = λ m reads asks. absurd (cc
    (asks, ap (λ (x : Message). x.metadata.message_type) (c.messages_decode_unambiguously.ensures.same c.args.bytes.now m c.in-Ok.request reads c.in-Ok.ensures.read), c.in-Response.is))
