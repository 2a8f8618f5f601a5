use Rattle.std.proofs.Common.{◌≡◌, length}
use Rattle.dns_wire.specs.internal.Suffixes.{suffixes_of, AreStoredFrom, IsIndexed}
use Rattle.dns_wire.proofs.suffixes.link_all.Given as goal

-- the entries before the index are linked
abbrev pub invariant-loop-at : goal.invariant-loop-at
invariant-loop-at l = record {
  in_order : AreStoredFrom 0 (length l.stored) l.entries.items;
  same : suffixes_of l.stored l.entries.items ≡ suffixes_of l.stored l.initial.entries.items;
  entries : length l.entries.items ≡ length l.initial.entries.items;
  indexed : IsIndexed l.at (suffixes_of l.stored l.initial.entries.items) l.entries.items l.heads;
}
