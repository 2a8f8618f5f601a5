use Rattle.stub_run.proofs.FewLaws.{world-few}
use Rattle.stub_run.proofs.Reporting.{report-history}
use Rattle.stub_run.proofs.runs.run.Goals as goal

pub returns-clause-history : goal.returns-clause-history
returns-clause-history c =
    report-history c.runs_have_one_history.ensures c.args.world c.args.events.now c.run_world.result c.know_names.ensures
    c.run_world.ensures.run c.run_world.ensures.stopped c.run_world.ensures.order

pub returns-clause-few : goal.returns-clause-few
returns-clause-few c = world-few c.args.world c.args.events.now c.run_world.result c.run_world.ensures.few
