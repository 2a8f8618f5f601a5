use Rattle.std.proofs.Common.{take, ap, ◌∙◌}
use Rattle.stub_run.proofs.runs.report_at.Goals as goal

pub returns-clause-sent : goal.returns-clause-sent
returns-clause-sent g c =
    c.truncate.ensures.items ∙ ap (λ v. take c.args.progress.drawn v.items) c.into_sent-sent.ensures
    ∙ ap (λ h. take c.args.progress.drawn h.sent.items) c.into_handle.ensures
