use Rattle.std.proofs.Common.{drop}
use Rattle.stub_run.specs.Questions.{AreAskable}
use Rattle.stub_run.proofs.runs.know_names.Given as goal

-- all can be asked if the rest can
abbrev pub invariant-loop-event : goal.invariant-loop-event
invariant-loop-event l = AreAskable (drop l.event-index l.events) → AreAskable l.events
