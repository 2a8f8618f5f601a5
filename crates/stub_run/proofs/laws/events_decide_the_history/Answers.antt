use Rattle.stub_run.proofs.RunLaws.{history-decided}
use Rattle.stub_run.proofs.laws.events_decide_the_history.Goals as goal

pub returns : goal.returns
returns c = λ zone limit ids first last events reports states is runs.
    history-decided zone limit ids first last events reports states is runs
