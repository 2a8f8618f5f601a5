use Rattle.stub_run.proofs.TracedNotes.{traced-begun}
use Rattle.stub_run.proofs.traced_events.TracedLinkEventLink.begin.Goals as goal

pub returns-clause-begins : goal.returns-clause-begins
returns-clause-begins g c =
    traced-begun g.L.EventLink.begins c.args.self.now c.clear_notes.new.self c.args.event.now c.link_mut.result.now c.begin.new.self
    c.begin.result c.clear_notes.ensures.link c.clear_notes.ensures.calls c.clear_notes.ensures.complete c.link_mut.ensures.link
    c.begin.ensures.begins
