use Rattle.std.proofs.Common.{[]}
use Rattle.lookup_cli.specs.Values.{SpellsName}
use Rattle.lookup_cli.proofs.ArgumentsLaws.{values_more}
use Rattle.lookup_cli.proofs.arguments.names_of.Goals as goal

pub loop-text-preserved : goal.loop-text-preserved
loop-text-preserved c =
    values_more SpellsName c.args.texts.now c.loop-text.names.items c.push.new.self.items c.loop-text.text-index (record { ref_ptr = (0, 0); now = [] }) c.in_ok-name_of.field-0 c.loop-text-test.true
    c.loop-text.invariant c.in_ok-name_of.ensures.value c.in_ok-push.ensures.items
