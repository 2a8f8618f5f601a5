use Rattle.stub_lookup.specs.Outcome.{outcome}
use Rattle.stub_client.proofs.StepLaws.{leads-on}
use Rattle.stub_client.proofs.caching_client.step.step_on_response.Goals as goal

pub returns-in-Err-clause-step : goal.returns-in-Err-clause-step
returns-in-Err-clause-step c =
    leads-on c.args.settings c.args.query.now c.args.kept c.args.depth (outcome c.args.response) c.in-Err.error
    c.step_on_meaning.result c.step_on_meaning.ensures.step c.step_on_meaning.ensures.ok c.in-Err.ensures.outcome
