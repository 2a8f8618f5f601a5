use Rattle.update_text.proofs.UpdateLaws.{is_text_after}
use Rattle.update_text.proofs.update.record_words.RecordWords.after.Goals as goal

pub returns : goal.returns
returns c =
    is_text_after c.args.place c.self.inside.ttl c.self.inside.rtype c.self.inside.rdata.now c.words_after.result.now c.args.self.now
    c.self.view_is c.words_after.ensures
