use Rattle.stub_link.proofs.Scripts.{update-begun}
use Rattle.stub_link.proofs.link.scripted.ScriptedLink.begin_update.Goals as goal

pub returns : goal.returns
returns c =
    update-begun c.args.self.now c.follow_with_update-begun.new.self c.note_refusal.new.self c.args.script.now c.follow_with_update-begun.result c.note_refusal.result
    c.follow_with_update-begun.ensures.course c.follow_with_update-begun.ensures.place c.follow_with_update-begun.ensures.rest c.note_refusal.ensures.same c.note_refusal.ensures.ok c.note_refusal.ensures.err
