use Rattle.std.proofs.Common.{◌≡◌, ◌∙◌, ap, refl, rules}
use Rattle.std.specs.Prelude.{Some}
use Rattle.stub_cache.specs.internal.Key.{key_of}
use Rattle.stub_cache.specs.internal.Table.{stored_at}
use Rattle.stub_cache.proofs.TableLaws.{is_removed, removed}
use Rattle.stub_cache.proofs.StayingLaws.{removed_entries}
use Rattle.stub_cache.proofs.cache.table.EntryTable.remove.Goals as goal

pub returns-clause-entries : goal.returns-clause-entries
returns-clause-entries c =
    let at : stored_at c.args.self.now c.args.slot ≡ Some c.in-Some.removed = search rules in
    removed_entries c.args.self.now c.try_remove.new.self.slots c.args.slot c.in-Some.removed (Some c.args.slot) c.requires at c.try_remove.ensures.updates.changed c.try_remove.ensures.updates.others

pub returns-clause-indexed : goal.returns-clause-indexed
returns-clause-indexed c =
    let at : stored_at c.args.self.now c.args.slot ≡ Some c.in-Some.removed = search rules in
    let key_is : c.as_slice.result.now ≡ key_of c.in-Some.removed.1.question =
    c.as_slice.ensures.value ∙ (c.push_question.ensures ∙ ap (λ e. key_of e.question) c.entry-entry.ensures) in
    removed c.args.self.now _ c.args.slot c.in-Some.removed c.requires
    (is_removed c.args.self.now _ c.args.slot c.in-Some.removed c.as_slice.result.now c.entry-entry.result.now.deadline c.stamp-stamp.result
    key_is (ap (λ e. e.deadline) c.entry-entry.ensures) c.stamp-stamp.ensures at c.try_remove.ensures.updates
    c.remove_key.ensures.key c.remove_key.ensures.others c.remove_key.ensures.only c.remove.ensures.updates refl)
