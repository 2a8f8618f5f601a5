use Rattle.std.proofs.Common.{◌≡◌, ◌+◌, ◌*◌, ◌-◌, ◌++◌, ℕ, List}
use Rattle.dns_fields.specs.bitmaps.Bitmap.{AreTypes, octets_from}
use Rattle.dns_fields.proofs.bitmaps.bitmap.push_octets.Given as goal

-- the octets that are left complete the bitmap
abbrev pub invariant-loop-index : goal.invariant-loop-index
invariant-loop-index l =
    (types : List ℕ) (base : ℕ) → AreTypes l.present types base
    → l.out.items ++ octets_from types (base + 8 * l.index) (l.count - l.index) ≡ l.fn.out.items ++ octets_from types base l.count
