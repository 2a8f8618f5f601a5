use Rattle.std.proofs.Common.{take}
use Rattle.stub_run.specs.Event.{AreHonest}
use Rattle.stub_play.proofs.plays.first_listed.Given as goal

abbrev pub invariant-loop-i : goal.invariant-loop-i
invariant-loop-i l = AreHonest (take l.i l.events)
