use Rattle.std.proofs.Common.{◌≡◌, ◌≤◌, drop}
use Rattle.dns_fields.specs.bitmaps.Bitmap.{octets_needed}
use Rattle.dns_fields.proofs.bitmaps.bitmap.octets_needed.Given as goal

-- the types that are left complete the number
abbrev pub invariant-loop-number : goal.invariant-loop-number
invariant-loop-number l = record {
  completes : octets_needed l.needed (drop l.number-index l.types) l.window ≡ octets_needed 0 l.types l.window;
  few : l.needed ≤ 32;
}
