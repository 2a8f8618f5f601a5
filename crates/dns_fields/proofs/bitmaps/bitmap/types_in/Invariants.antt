use Rattle.std.proofs.Common.{◌≡◌, length}
use Rattle.dns_fields.proofs.BitmapsLoopLaws.{Noted}
use Rattle.dns_fields.proofs.bitmaps.bitmap.types_in.Given as goal

-- the types up to here are in the table
abbrev pub invariant-loop-number : goal.invariant-loop-number
invariant-loop-number l = record {
  noted : Noted l.present l.types l.number-index l.window;
  len : length l.present ≡ 256;
}
