use Rattle.std.proofs.Common.{arith}
use Rattle.dns_wire.specs.Pointers.{at_end, past_link}
use Rattle.dns_wire.proofs.pointers.follow.Goals as goal

pub loop-target-preserved : goal.loop-target-preserved
loop-target-preserved c =
    let inv = c.loop-target.invariant in
    let pointer = c.in-Some.ensures.pointer in
    let prior = c.in-Some.ensures.prior in
    record { follows = λ last f. inv.follows last (past_link pointer prior f); within = omega (arith, inv.within, prior) }

pub returns-clause-follows : goal.returns-clause-follows
returns-clause-follows c = c.loop-target.invariant.follows c.loop-target.end (at_end (c.prior_target.ensures.none c.in_default.is))
