use Rattle.std.proofs.Common.{◌∙◌, is_some, sym}
use Rattle.dns_records.specs.Rows.{key, rows_of, with_set}
use Rattle.dns_updates.specs.Changes.{changed_at, changed_key, overlay}
use Rattle.dns_updates.specs.declared.changes.changed_set.ChangedSet.{ChangedSet}
use Rattle.dns_updates.proofs.ChangeLaws.{name_beside, name_kept, rewritten, written}
use Rattle.dns_updates.proofs.changes.store.store_records.Goals as goal

pub returns-then-contains-clause-rows : goal.returns-then-contains-clause-rows
returns-then-contains-clause-rows c = λ rows.
    rewritten rows c.args.sets.now c.replace.new.self (key c.args.owner.now.labels c.args.record_type) _ (sym c.if-contains.ensures) c.replace.ensures.sets

pub returns-then-contains-clause-names : goal.returns-then-contains-clause-names
returns-then-contains-clause-names c =
    name_kept c.args.sets.now c.replace.new.self (key c.args.owner.now.labels c.args.record_type) _ c.replace.ensures.sets

pub returns-clause-rows : goal.returns-clause-rows
returns-clause-rows c =
    let y : ChangedSet = record { name = c.in_ok-name.name; record_type = c.args.record_type; records = c.args.records } in
    λ rows. written rows c.args.sets.now c.insert.new.self (changed_key y) y c.in_ok-insert.ensures
    ∙ (λ i. with_set (overlay rows c.args.sets.now) (key (c.in_ok-name.ensures.ok i).labels c.args.record_type) (rows_of c.args.records))

pub returns-clause-names : goal.returns-clause-names
returns-clause-names c =
    let y : ChangedSet = record { name = c.in_ok-name.name; record_type = c.args.record_type; records = c.args.records } in
    name_beside c.args.sets.now c.insert.new.self (changed_key y) y
    ((λ i. is_some (changed_at c.args.sets.now (key (c.in_ok-name.ensures.ok i).labels c.args.record_type))) ∙ sym c.if-contains.ensures) c.in_ok-insert.ensures
