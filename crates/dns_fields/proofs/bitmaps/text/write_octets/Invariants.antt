use Rattle.std.proofs.Common.{◌≡◌, ℕ, List, ◌+◌, ◌*◌, ◌++◌, drop}
use Rattle.std.specs.Fmt.{HasWritten, IsPlainFormatter}
use Rattle.dns_fields.specs.bitmaps.Bitmap.{types_of_octets, spaced_types}
use Rattle.dns_fields.proofs.bitmaps.text.write_octets.Given as goal

-- the octets that are left complete the text
abbrev pub invariant-loop-octet : goal.invariant-loop-octet
invariant-loop-octet g l = record {
  place : l.number ≡ l.base + 8 * l.octet-index;
  completes : IsPlainFormatter l.initial.f → (done : List ℕ) × HasWritten g.W.Write.write_str_gives l.initial.f done l.f
      × (done ++ spaced_types (types_of_octets l.number (drop l.octet-index l.octets)) ≡ spaced_types (types_of_octets l.base l.octets));
}
