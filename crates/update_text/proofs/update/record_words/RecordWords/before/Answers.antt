use Rattle.update_text.proofs.UpdateLaws.{is_text_before}
use Rattle.update_text.proofs.update.record_words.RecordWords.before.Goals as goal

pub returns : goal.returns
returns c =
    is_text_before c.args.place c.self.inside.ttl c.self.inside.rtype c.self.inside.rdata.now c.words_before.result.now c.args.self.now
    c.self.view_is c.words_before.ensures
