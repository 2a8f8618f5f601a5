use Rattle.stub_run.specs.RunOver.{rules_of}
use Rattle.stub_run.proofs.RunningOver.{Lent, begun}
use Rattle.stub_run.proofs.runs.begin.Goals as goal

pub returns-clause-begins : goal.returns-clause-begins
returns-clause-begins g c =
    let lent : Lent c.args.resolver.now c.handle_mut-handle.result.now c.reset_counts.new.self c.link_mut.result.now = record {
      handle = c.handle_mut-handle.ensures.value;
      counts = c.reset_counts.ensures;
      link = c.link_mut.ensures.link;
    } in
    begun (rules_of g.L.EventLink.begins g.L.EventLink.ends g.L.EventLink.is_out g.L.Link.sends g.L.Link.receives g.L.Link.streams g.L.Link.failure_count)
    c.args.resolver.now c.args.event.now c.handle_mut-handle.result.now c.reset_counts.new.self c.link_mut.result.now c.begin.new.self
    c.begin.result lent c.begin.ensures.begins
