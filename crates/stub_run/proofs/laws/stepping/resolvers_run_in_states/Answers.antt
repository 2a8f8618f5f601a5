use Rattle.stub_run.proofs.SteppingLaws.{first-runs}
use Rattle.stub_run.proofs.laws.stepping.resolvers_run_in_states.Goals as goal

pub returns : goal.returns
returns c = first-runs c.handles_over_the_scripted_link_ask_the_zone.ensures c.handles_over_the_scripted_link_update_the_zone.ensures
