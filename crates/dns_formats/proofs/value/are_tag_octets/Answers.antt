use Rattle.std.proofs.Common.{sym, ◌∙◌}
use Rattle.dns_formats.proofs.ValueLaws.{tag_further, tag_stops}
use Rattle.dns_formats.proofs.value.are_tag_octets.Goals as goal

pub loop-octet-preserved : goal.loop-octet-preserved
loop-octet-preserved c =
    tag_further c.args.octets.now c.loop-octet.octet-index c.loop-octet-test.true (sym c.is_tag_octet.ensures ∙ c.if-not-is_tag_octet.false) c.loop-octet.invariant

pub returns-then-not-is_tag_octet : goal.returns-then-not-is_tag_octet
returns-then-not-is_tag_octet c =
    sym (tag_stops c.args.octets.now c.loop-octet.octet-index c.loop-octet-test.true (sym c.is_tag_octet.ensures ∙ c.if-not-is_tag_octet.true) c.loop-octet.invariant)
