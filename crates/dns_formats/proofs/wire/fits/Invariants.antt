use Rattle.std.proofs.Common.{◌≡◌, drop}
use Rattle.dns_formats.specs.Wire.{fits}
use Rattle.dns_formats.proofs.wire.fits.Given as goal

-- the fields up to here have values
abbrev pub invariant-loop-field : goal.invariant-loop-field
invariant-loop-field l = fits (drop l.field-index l.fields) l.left ≡ fits l.fields l.bytes
