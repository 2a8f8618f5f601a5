use Rattle.std.proofs.Common.{refl, arith}
use Rattle.dns_wire.specs.Pointers.{at_end, past_link}
use Rattle.dns_wire.proofs.pointers.end_from.Goals as goal

pub returns-in-Some-clause-follows : goal.returns-in-Some-clause-follows
returns-in-Some-clause-follows c =
    let prior = c.in-Some.ensures.prior in
    past_link c.in-Some.ensures.pointer prior (c.requires.ends c.in-Some.target (omega (arith, prior, c.requires.len))).0

pub returns-in-None-clause-follows : goal.returns-in-None-clause-follows
returns-in-None-clause-follows c = at_end (c.in-None.ensures.none refl)
