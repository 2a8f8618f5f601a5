use Rattle.std.proofs.Common.{◌≡◌, ◌≤◌, ◌+◌, ℕ, List, drop}
use Rattle.dns_fields.specs.bitmaps.Bitmap.{AreTypes, weights, octet_of}
use Rattle.dns_fields.proofs.BitmapsLoopLaws.{total}
use Rattle.dns_fields.proofs.bitmaps.bitmap.octet_of.Given as goal

-- the bits that are left complete the octet
abbrev pub invariant-loop-weight : goal.invariant-loop-weight
invariant-loop-weight l = record {
  completes : (types : List ℕ) (base : ℕ) → AreTypes l.present types base
      → l.octet + octet_of (drop l.weight-index weights) types (base + l.place) ≡ octet_of weights types (base + l.first);
  fits : l.octet + total (drop l.weight-index weights) ≤ 255;
  place : l.place ≡ l.first + l.weight-index;
}
