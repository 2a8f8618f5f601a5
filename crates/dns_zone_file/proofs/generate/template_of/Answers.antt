use Rattle.dns_zone_file.proofs.GenerateLaws.{argument_further}
use Rattle.dns_zone_file.proofs.generate.template_of.Goals as goal

pub loop-argument-preserved : goal.loop-argument-preserved
loop-argument-preserved c =
    rw (c.in_ok-push.ensures.items, c.in_ok-extend_from_slice.ensures.items)
    (argument_further c.args.arguments.now c.loop-argument.text.items c.argument_text.result.now c.loop-argument.argument-index _ c.loop-argument-test.true
    c.argument_text.ensures c.loop-argument.invariant)
