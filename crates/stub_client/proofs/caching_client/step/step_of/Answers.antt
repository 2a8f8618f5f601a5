use Rattle.std.proofs.Common.{sym, ap, ◌∙◌}
use Rattle.stub_client.specs.Step.{step_of}
use Rattle.stub_client.proofs.caching_client.step.step_of.Goals as goal

pub returns-in-Err-clause-step : goal.returns-in-Err-clause-step
returns-in-Err-clause-step c =
    c.step_on_error.ensures c.args.settings c.args.query.now c.args.kept c.args.depth
    ∙ ap (step_of c.args.settings c.args.query.now c.args.kept c.args.depth) (sym c.in-Err.is)
