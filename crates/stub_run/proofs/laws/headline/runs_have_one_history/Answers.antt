use Rattle.stub_run.proofs.Reporting.{one-history}
use Rattle.stub_run.proofs.laws.headline.runs_have_one_history.Goals as goal

pub returns : goal.returns
returns c =
    one-history c.every_record_stood.ensures.fresh c.every_record_stood.ensures.chain_bound c.every_answer_stood.ensures
    c.records_stood_at_replies.ensures.fresh c.records_stood_at_replies.ensures.chain_bound c.answers_stood_at_replies.ensures c.answers_have_sources.ensures
    c.unchanged_zones_are_steady.ensures c.unchanged_zones_are_walked.ensures c.events_decide_the_history.ensures
