use Rattle.std.proofs.Common.{◌+◌, List, ℕ, drop, sym, ap, ◌∙◌}
use Rattle.dns_text.proofs.FrontLaws.{slice_is}
use Rattle.dns_formats.specs.Wire.{fits}
use Rattle.dns_formats.proofs.WireLaws.{fits_further}
use Rattle.dns_formats.proofs.wire.fits.Goals as goal

pub loop-field-preserved : goal.loop-field-preserved
loop-field-preserved c =
    ap (λ (l : List ℕ). fits (drop (c.loop-field.field-index + 1) c.args.fields.now) l) (slice_is c.loop-field.left.now c.in-Some.len)
    ∙ fits_further c.args.fields.now c.loop-field.field-index _ c.loop-field.left.now c.in-Some.len _ c.loop-field-test.true (sym c.in-Some.ensures.value) c.loop-field.invariant
