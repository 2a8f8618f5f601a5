use Rattle.stub_run.proofs.TracedNotes.{traced-ended}
use Rattle.stub_run.proofs.traced_events.TracedLinkEventLink.end.Goals as goal

pub returns : goal.returns
returns g c =
    traced-ended g.L.EventLink.ends c.args.self.now c.link_mut.result.now c.end.new.self c.end.result c.link_mut.ensures.link c.end.ensures
