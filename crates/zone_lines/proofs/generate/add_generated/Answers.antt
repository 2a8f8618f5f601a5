use Rattle.std.proofs.Common.{refl}
use Rattle.dns_zone_file.specs.internal.Generate.{generation_view}
use Rattle.zone_lines.proofs.GenerateLaws.{all_added, at_first, number_added, number_refused}
use Rattle.zone_lines.proofs.generate.add_generated.Goals as goal

pub loop-place-init : goal.loop-place-init
loop-place-init c = at_first c.args.at (generation_view c.args.generation.now) c.args.context.now _ c.new-found.result.items refl c.new-found.ensures.items

pub loop-place-preserved : goal.loop-place-preserved
loop-place-preserved c =
    let adds = rw c.in-Record.is at c.in_ok-added.ensures in
    number_added c.loop-place.invariant c.loop-place-test.true c.number-number.result c.as_slice-template.result.now c.number-number.ensures.value
    c.as_slice-template.ensures.value c.in-Record.added c.add_number.new.context c.push.new.self.items adds c.in_ok-push-in-Record.ensures.items

pub returns-in-Fault : goal.returns-in-Fault
returns-in-Fault c =
    let adds = rw c.in-Fault.is at c.in_ok-added.ensures in
    number_refused c.loop-place.invariant c.loop-place-test.true c.number-number.result c.as_slice-template.result.now c.number-number.ensures.value
    c.as_slice-template.ensures.value c.in-Fault.fault c.add_number.new.context c.push-in-Fault.new.self.items adds c.in_ok-push-in-Fault.ensures.items

pub returns : goal.returns
returns c = all_added c.loop-place.invariant c.loop-place-test.false
