use Rattle.stub_run.specs.RunOver.{rules_of}
use Rattle.stub_run.proofs.RunningOver.{ended}
use Rattle.stub_run.proofs.runs.end.Goals as goal

pub returns-clause-ends : goal.returns-clause-ends
returns-clause-ends g c =
    ended (rules_of g.L.EventLink.begins g.L.EventLink.ends g.L.EventLink.is_out g.L.Link.sends g.L.Link.receives g.L.Link.streams g.L.Link.failure_count)
    c.args.resolver.now c.handle_mut.result.now c.link_mut.result.now c.end.new.self c.end.result c.handle_mut.ensures.value
    c.link_mut.ensures.link c.end.ensures
