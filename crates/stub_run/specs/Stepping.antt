-- Events that happen to a resolver one by one, in the terms of a run.
use Rattle.std.specs.Prelude.{List}
use Rattle.stub_core.specs.declared.resolver.Resolver.{Resolver}
use Rattle.stub_link.specs.declared.link.scripted.ScriptedLink.{ScriptedLink}
use Rattle.stub_link.specs.declared.wire_handle.WireHandle.{WireHandle}
use Rattle.stub_run.specs.Run.{IsReportBefore, IsReportOf, RunState}
use Rattle.stub_run.specs.RunOver.{IsReportBeforeOver, IsReportOver, LinkRules}
use Rattle.stub_run.specs.ScriptedEvents.{scripted_rules}
use Rattle.stub_run.specs.declared.event.Event.{Event}
use Rattle.stub_run.specs.declared.report.Report.{Report}

-- what events over the scripted link lead a resolver to is a run from a state, also up to an event at which memory runs out
pub record RunsFrom (resolver : Resolver (WireHandle ScriptedLink)) (state : RunState) : Type 0 where
  pub runs : (events : List Event) (report : Report) → IsReportOver scripted_rules resolver events report → IsReportOf state events report
  pub stops : (events : List Event) (report : Report) → IsReportBeforeOver scripted_rules resolver events report
      → IsReportBefore state events report

-- what events over a link lead a resolver to, they lead another resolver to over another link
pub record RunsAs {T L : Type 0} (rules : LinkRules T) (others : LinkRules L) (resolver : Resolver (WireHandle T))
    (other : Resolver (WireHandle L)) : Type 0 where
  pub runs : (events : List Event) (report : Report) → IsReportOver rules resolver events report → IsReportOver others other events report
  pub stops : (events : List Event) (report : Report) → IsReportBeforeOver rules resolver events report
      → IsReportBeforeOver others other events report
