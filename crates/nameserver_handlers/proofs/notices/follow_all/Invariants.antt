use Rattle.nameserver_handlers.proofs.NoticeLaws.{AreFollowedTo}
use Rattle.nameserver_handlers.proofs.notices.follow_all.Given as goal

-- the first followers follow their zones
abbrev pub invariant-loop-place : goal.invariant-loop-place
invariant-loop-place g l = AreFollowedTo l.now l.zones l.initial.followers l.are_all l.followers l.place
