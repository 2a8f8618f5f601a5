use Rattle.std.proofs.Common.{List}
use Rattle.dns_sockets.specs.Trace.{Act, Leads}
use Rattle.dns_sockets.proofs.NoticeLaws.{Notices}
use Rattle.dns_sockets.proofs.notices.send_notices.Given as goal

-- the first datagrams were sent
abbrev pub invariant-loop-notice : goal.invariant-loop-notice
invariant-loop-notice g l = (done : List Act) × (Leads g.W.World.performs g.H.Handler.steps l.initial.world l.initial.handler done l.world l.handler × Notices l._notice 64 l.sockets l.now done)
