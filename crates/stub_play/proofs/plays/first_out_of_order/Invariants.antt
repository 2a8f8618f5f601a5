use Rattle.std.proofs.Common.{take}
use Rattle.stub_play.proofs.OrderLaws.{Leads}
use Rattle.stub_play.proofs.plays.first_out_of_order.Given as goal

abbrev pub invariant-loop-i : goal.invariant-loop-i
invariant-loop-i l = Leads 0 (take l.i l.events) l.last
