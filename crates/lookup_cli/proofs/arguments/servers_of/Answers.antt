use Rattle.std.proofs.Common.{[]}
use Rattle.lookup_cli.specs.Values.{IsServer}
use Rattle.lookup_cli.proofs.ArgumentsLaws.{values_more}
use Rattle.lookup_cli.proofs.arguments.servers_of.Goals as goal

pub loop-text-preserved : goal.loop-text-preserved
loop-text-preserved c =
    values_more IsServer c.args.texts.now c.loop-text.servers.items c.push.new.self.items c.loop-text.text-index (record { ref_ptr = (0, 0); now = [] }) c.in_ok-server_of.field-0 c.loop-text-test.true
    c.loop-text.invariant c.in_ok-server_of.ensures.value c.in_ok-push.ensures.items
