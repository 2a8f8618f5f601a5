use Rattle.std.proofs.Common.{◌≡◌, ℕ, List, ◌+◌, ◌++◌, drop}
use Rattle.std.specs.Fmt.{HasWritten, IsPlainFormatter}
use Rattle.dns_fields.specs.bitmaps.Bitmap.{weights, types_of_octet, spaced_types}
use Rattle.dns_fields.proofs.bitmaps.text.write_octet.Given as goal

-- the bits that are left complete the text
abbrev pub invariant-loop-weight : goal.invariant-loop-weight
invariant-loop-weight g l = record {
  place : l.number ≡ l.base + l.weight-index;
  completes : IsPlainFormatter l.initial.f → (done : List ℕ) × HasWritten g.W.Write.write_str_gives l.initial.f done l.f
      × (done ++ spaced_types (types_of_octet (drop l.weight-index weights) l.number l.left) ≡ spaced_types (types_of_octet weights l.base l.octet));
}
