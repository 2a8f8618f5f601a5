use Rattle.std.proofs.Common.{◌≡◌, ◌∙◌, rules}
use Rattle.std.specs.Prelude.{None, Some}
use Rattle.stub_cache.specs.internal.Key.{key_of}
use Rattle.stub_cache.specs.internal.Table.{slot_at}
use Rattle.stub_cache.proofs.StayingLaws.{cleared_by_slot}
use Rattle.stub_cache.proofs.cache.table.EntryTable.clear_query.Goals as goal

pub returns-in-Some-clause-entries : goal.returns-in-Some-clause-entries
returns-in-Some-clause-entries c =
    let led : slot_at c.args.self.now (key_of c.args.query.now) ≡ Some c.in-Some.found = search rules in
    c.remove.ensures.entries ∙ cleared_by_slot c.args.self.now c.requires c.args.query.now (Some c.in-Some.found) led

pub returns-in_default-clause-entries : goal.returns-in_default-clause-entries
returns-in_default-clause-entries c =
    let led : slot_at c.args.self.now (key_of c.args.query.now) ≡ None = search rules in
    cleared_by_slot c.args.self.now c.requires c.args.query.now None led
