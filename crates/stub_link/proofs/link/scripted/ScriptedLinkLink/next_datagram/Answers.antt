use Rattle.std.proofs.Common.{Err, Ok, refl, sym, ap, ◌∙◌}
use Rattle.stub_link.proofs.Calling.{reports-failed, reports-memory, reports-other}
use Rattle.stub_link.proofs.link.scripted.ScriptedLinkLink.next_datagram.Goals as goal

pub returns-in-Ok-clause-receives : goal.returns-in-Ok-clause-receives
returns-in-Ok-clause-receives c = reports-other c.args.self.now c.receive.new.self (Ok c.in-Ok.received) (λ e. absurd (cc e)) c.in-Ok.ensures.receives c.in-Ok.ensures.memory c.in-Ok.ensures.counts c.in-Ok.ensures.decided

pub returns-in-Err-Failed-clause-receives : goal.returns-in-Err-Failed-clause-receives
returns-in-Err-Failed-clause-receives c =
    reports-failed c.args.self.now c.receive.new.self c.in-Err-Failed.field-0 c.in-Err-Failed.field-0-is c.in-Err-Failed.ensures.receives c.in-Err-Failed.ensures.memory
    c.in-Err-Failed.ensures.counts c.in-Err-Failed.ensures.decided

pub returns-in-Err-Memory-clause-receives : goal.returns-in-Err-Memory-clause-receives
returns-in-Err-Memory-clause-receives c =
    reports-memory c.args.self.now c.receive.new.self _ c.in-Err-Memory.field-0 c.in-Err-Memory.field-0-is refl refl c.in-Err-Memory.ensures.counts
    c.in-Err-Memory.ensures.decided
