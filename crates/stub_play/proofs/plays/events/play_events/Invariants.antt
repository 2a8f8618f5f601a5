use Rattle.std.proofs.Common.{take}
use Rattle.stub_run.specs.RunOver.{rules_of}
use Rattle.stub_play.proofs.EventLaws.{SoFar}
use Rattle.stub_play.proofs.plays.events.play_events.Given as goal

-- the events so far led to some reports, which are written
abbrev pub invariant-loop-event : goal.invariant-loop-event
invariant-loop-event g l =
    SoFar (rules_of g.L.EventLink.begins g.L.EventLink.ends g.L.EventLink.is_out g.L.Link.sends g.L.Link.receives g.L.Link.streams g.L.Link.failure_count)
    l.input l.fn.resolver (take l.event-index l.events) l.resolver (g.W.Write.contents l.initial.writer) (g.W.Write.contents l.writer)
