use Rattle.stub_link.specs.ScriptedLink.{IsEnded, Receives, Sends, Streams, is_out_of_memory}
use Rattle.stub_run.specs.Run.{memory_report}
use Rattle.stub_run.specs.ScriptedEvents.{Begins}
use Rattle.stub_run.proofs.FewLaws.{result-few}
use Rattle.stub_run.proofs.Running.{reported, stopped}
use Rattle.stub_run.proofs.runs.run_world.Goals as goal

pub returns-clause-run : goal.returns-clause-run
returns-clause-run c =
    reported c.handles_over_the_scripted_link_ask_the_zone.ensures c.handles_over_the_scripted_link_update_the_zone.ensures
    c.args.world c.args.events.now c.run_events.result c.run_events.ensures.run

pub returns-clause-stopped : goal.returns-clause-stopped
returns-clause-stopped c =
    stopped c.handles_over_the_scripted_link_ask_the_zone.ensures c.handles_over_the_scripted_link_update_the_zone.ensures
    c.args.world c.args.events.now (memory_report c.run_events.result) c.run_events.ensures.stopped

pub returns-clause-few : goal.returns-clause-few
returns-clause-few c =
    result-few Sends Receives Streams (λ link. link.failures) Begins IsEnded is_out_of_memory c.args.world.resolver c.args.events.now
    c.run_events.result c.run_events.ensures.run c.run_events.ensures.stopped
