use Rattle.stub_run.proofs.FewLaws.{report-few}
use Rattle.stub_run.proofs.laws.runs_ask_few_questions.Goals as goal

pub returns : goal.returns
returns g c =
    report-few g.L.Link.sends g.L.Link.receives g.L.Link.streams g.L.Link.failure_count g.L.EventLink.begins g.L.EventLink.ends
    g.L.EventLink.is_out
