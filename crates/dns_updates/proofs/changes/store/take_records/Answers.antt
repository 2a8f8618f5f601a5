use Rattle.std.proofs.Common.{sym, ap, ◌∙◌}
use Rattle.dns_records.specs.Rows.{key, rows_of}
use Rattle.dns_updates.proofs.ChangeLaws.{name_kept, rows_below, rows_replaced, taken_out}
use Rattle.dns_updates.proofs.changes.store.take_records.Goals as goal

pub returns-in-Some-clause-taken : goal.returns-in-Some-clause-taken
returns-in-Some-clause-taken g c =
    sym (rows_replaced (g.Z.ZoneRows.rows c.args.zone.now) c.args.sets.now c.args.owner.now.labels c.args.record_type c.in-Some.records c.in-Some.ensures.some)

pub returns-in-Some-clause-others : goal.returns-in-Some-clause-others
returns-in-Some-clause-others g c = λ s.
    taken_out (g.Z.ZoneRows.rows c.args.zone.now) c.args.sets.now c.replace.new.self (key c.args.owner.now.labels c.args.record_type) _ s c.replace.ensures.sets

pub returns-in-Some-clause-names : goal.returns-in-Some-clause-names
returns-in-Some-clause-names g c =
    name_kept c.args.sets.now c.replace.new.self (key c.args.owner.now.labels c.args.record_type) _ c.replace.ensures.sets

pub returns-clause-taken : goal.returns-clause-taken
returns-clause-taken g c =
    ap rows_of c.in_ok-records.ensures ∙ c.records.ensures
    ∙ sym (rows_below (g.Z.ZoneRows.rows c.args.zone.now) c.args.sets.now c.args.owner.now.labels c.args.record_type c.in_default.ensures.none)

pub returns-clause-others : goal.returns-clause-others
returns-clause-others g c = λ s.
    taken_out (g.Z.ZoneRows.rows c.args.zone.now) c.args.sets.now c.replace.new.self (key c.args.owner.now.labels c.args.record_type) _ s c.replace.ensures.sets

pub returns-clause-names : goal.returns-clause-names
returns-clause-names g c =
    name_kept c.args.sets.now c.replace.new.self (key c.args.owner.now.labels c.args.record_type) _ c.replace.ensures.sets
