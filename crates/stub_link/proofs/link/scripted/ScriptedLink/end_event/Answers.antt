use Rattle.stub_link.proofs.Scripts.{event-ended}
use Rattle.stub_link.proofs.link.scripted.ScriptedLink.end_event.Goals as goal

pub returns : goal.returns
returns c =
    event-ended c.args.self.now c.deliver_rest-ended.new.self c.note_refusal.new.self c.deliver_rest-ended.result c.note_refusal.result c.deliver_rest-ended.ensures.ends c.deliver_rest-ended.ensures.empty c.deliver_rest-ended.ensures.decided c.deliver_rest-ended.ensures.rest
    c.note_refusal.ensures.same c.note_refusal.ensures.ok c.note_refusal.ensures.err
