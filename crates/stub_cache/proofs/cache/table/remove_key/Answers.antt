use Rattle.std.proofs.Common.{◌≡◌, refl, rules}
use Rattle.std.specs.Prelude.{None, Some}
use Rattle.stub_cache.specs.internal.Table.{slot_in}
use Rattle.stub_cache.proofs.TableLaws.{key_gone_only, key_gone_others}
use Rattle.stub_cache.proofs.cache.table.remove_key.Goals as goal

pub returns-then-found-slot-clause-others : goal.returns-then-found-slot-clause-others
returns-then-found-slot-clause-others c =
    let led : slot_in c.args.index.now c.args.key.now ≡ Some c.args.slot = search rules in
    key_gone_others c.args.index.now c.remove.new.self c.args.key.now None c.remove.ensures.updates c.args.slot refl led

pub returns-then-found-slot-clause-only : goal.returns-then-found-slot-clause-only
returns-then-found-slot-clause-only c = key_gone_only c.args.index.now c.remove.new.self c.args.key.now None c.remove.ensures.updates refl
