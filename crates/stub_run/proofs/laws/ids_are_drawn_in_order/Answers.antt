use Rattle.stub_run.proofs.RunLaws.{runs-drawn}
use Rattle.stub_run.proofs.laws.ids_are_drawn_in_order.Goals as goal

pub returns : goal.returns
returns c = λ ids first last events reports states drawn runs. runs-drawn ids first last events reports states drawn runs
