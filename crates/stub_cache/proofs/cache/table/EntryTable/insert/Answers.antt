use Rattle.std.proofs.Common.{◌∙◌, ◌++◌, [], ◌∷◌, ap}
use Rattle.std.specs.Prelude.{Some}
use Rattle.stub_cache.specs.Cache.{staying}
use Rattle.stub_cache.proofs.StayingLaws.{appended_without}
use Rattle.stub_cache.proofs.cache.table.EntryTable.insert.Goals as goal

pub returns-in-Some-clause-stored : goal.returns-in-Some-clause-stored
returns-in-Some-clause-stored c =
    c.remove.ensures.entries
    ∙ (appended_without c.reserve_stamp.new.self c.append.new.self c.reserve_stamp.new.self.next_stamp c.args.entry (Some c.in-Some.slot)
    c.reserve_stamp.ensures.indexed c.in_ok-append.ensures.entries c.in_ok-append.ensures.slots c.in-Some.ensures.present
    ∙ ap (λ es. es ++ c.args.entry ∷ []) (c.in-Some.ensures.entries c.args.entry.question (c.as_slice.ensures.value ∙ c.push_question.ensures) ∙ ap (staying c.args.capacity c.args.entry.question) c.reserve_stamp.ensures.entries))
