use Rattle.std.proofs.Common.{◌∙◌, ap}
use Rattle.std.specs.Prelude.{min}
use Rattle.dns_sockets.specs.Deadlines.{listener_deadline}
use Rattle.dns_sockets.proofs.DeadlineLaws.{earlier, earliest_whole}
use Rattle.dns_sockets.proofs.listener.earliest_listener.Goals as goal

pub loop-listener-preserved : goal.loop-listener-preserved
loop-listener-preserved c =
    c.min-least.ensures ∙ ap (min c.loop-listener.least) (c.deadline.ensures)
    ∙ earlier listener_deadline c.args.listeners.now c.loop-listener.listener-index _ c.loop-listener.least c.loop-listener-test.true c.loop-listener.invariant

pub returns : goal.returns
returns c = earliest_whole listener_deadline c.args.listeners.now c.loop-listener.listener-index c.loop-listener.least c.loop-listener-test.false c.loop-listener.invariant
