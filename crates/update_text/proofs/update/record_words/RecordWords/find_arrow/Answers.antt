use Rattle.update_text.proofs.UpdateLaws.{is_arrow_of, is_arrow_within}
use Rattle.update_text.proofs.update.record_words.RecordWords.find_arrow.Goals as goal

pub returns-clause-place : goal.returns-clause-place
returns-clause-place c =
    is_arrow_of c.find_arrow.result c.self.inside.ttl c.self.inside.rtype c.self.inside.rdata.now c.args.self.now c.self.view_is
    c.find_arrow.ensures.place

pub returns-clause-within : goal.returns-clause-within
returns-clause-within c =
    is_arrow_within c.find_arrow.result c.self.inside.ttl c.self.inside.rtype c.self.inside.rdata.now c.args.self.now c.self.view_is
    c.find_arrow.ensures.within
