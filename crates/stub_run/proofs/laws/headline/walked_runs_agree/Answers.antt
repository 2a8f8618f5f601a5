use Rattle.stub_run.proofs.RunsAgree.{runs-agree}
use Rattle.stub_run.proofs.laws.headline.walked_runs_agree.Goals as goal

pub returns : goal.returns
returns c = runs-agree
