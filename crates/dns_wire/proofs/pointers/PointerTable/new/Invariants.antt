use Rattle.std.proofs.Common.{◌≡◌, length}
use Rattle.dns_wire.specs.Pointers.{AreEnds}
use Rattle.dns_wire.proofs.pointers.PointerTable.new.Given as goal

-- the places so far have their ends
abbrev pub invariant-loop-place : goal.invariant-loop-place
invariant-loop-place l = record {
  ends : AreEnds l.buffer l.ends.items;
  len : length l.ends.items ≡ l.place;
}
