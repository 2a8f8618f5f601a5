-- What is promised of a run, over one history of its zone.
use Rattle.std.specs.Prelude.{◌≡◌, false, List}
use Rattle.stub_link.specs.History.{Occasion, first_past}
use Rattle.stub_laws.specs.history.Faithful.{HasNoReuse}
use Rattle.stub_run.specs.AtReplies.{AreFreshAtReplies, AreWholeAtReplies, HaveChainBoundsAtReplies, HaveSourcesAtReplies}
use Rattle.stub_run.specs.Headline.{AreFresh, HasNoLeastTtl, HaveChainBounds, WorldContent}
use Rattle.stub_run.specs.History.{AreOccasions, MakePasts}
use Rattle.stub_run.specs.Run.{IsReportOf, RunState}
use Rattle.stub_run.specs.Steady.{AreSteady}
use Rattle.stub_run.specs.Walked.{AreWalked}
use Rattle.stub_run.specs.Whole.{AreWhole}
use Rattle.stub_run.specs.declared.event.Event.{Event}
use Rattle.stub_run.specs.declared.report.Report.{Report}

-- The report of a run, the states that it went through, what the link saw of its events, and the versions of the zone that these
-- made: every claim is over them. No id serves two equal questions.
pub record HasOneHistory (content : WorldContent) (first : RunState) (events : List Event) (report : Report) : Type 0 where
  pub reported : IsReportOf first events report
  pub occasions : List Occasion
  pub are_events : AreOccasions events report.events.items occasions
  pub pasts : MakePasts (first_past content.zone) reported.states occasions
  pub fresh : HasNoReuse report.sent.items → HasNoLeastTtl content → AreFresh content events report.events.items occasions
  pub chain_bound : HasNoReuse report.sent.items → HasNoLeastTtl content → content.options.preserve_intermediates ≡ false
      → HaveChainBounds content events report.events.items occasions
  pub whole : HasNoReuse report.sent.items → AreWhole content events report.events.items occasions
  pub steady : HasNoReuse report.sent.items → AreSteady content events report.events.items occasions
  pub fresh_at_replies : HasNoReuse report.sent.items → HasNoLeastTtl content
      → AreFreshAtReplies content first events report.events.items reported.states reported.last reported.runs
  pub chain_bound_at_replies : HasNoReuse report.sent.items → HasNoLeastTtl content
      → content.options.preserve_intermediates ≡ false
      → HaveChainBoundsAtReplies content first events report.events.items reported.states reported.last reported.runs
  pub whole_at_replies : HasNoReuse report.sent.items
      → AreWholeAtReplies content first events report.events.items reported.states reported.last reported.runs
  pub sources : HasNoReuse report.sent.items
      → HaveSourcesAtReplies content first events report.events.items reported.states reported.last reported.runs
  pub walked : HasNoReuse report.sent.items → content.options.preserve_intermediates ≡ false
      → AreWalked content events report.events.items occasions
