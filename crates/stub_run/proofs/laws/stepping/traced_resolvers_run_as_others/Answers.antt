use Rattle.stub_run.proofs.TracedRuns.{traced-first}
use Rattle.stub_run.proofs.laws.stepping.traced_resolvers_run_as_others.Goals as goal

pub returns : goal.returns
returns g c =
    traced-first g.L.EventLink.begins g.L.EventLink.ends g.L.EventLink.is_out g.L.Link.sends g.L.Link.receives g.L.Link.streams
    g.L.Link.failure_count c.traced_handles_ask_as_others.ensures.asks c.traced_handles_ask_as_others.ensures.updates
