use Rattle.std.proofs.Common.{◌≡◌, ◌++◌, length}
use Rattle.std.specs.Prelude.{None}
use Rattle.std.specs.Map.{values_of}
use Rattle.stub_cache.specs.internal.Table.{IsIndexed, entries_of}
use Rattle.stub_cache.proofs.cache.table.EntryTable.renumber.Given as goal

-- the copy has the entries so far, numbered from 0
abbrev pub invariant-loop-stamp : goal.invariant-loop-stamp
invariant-loop-stamp l = record {
  indexed : IsIndexed None l.renumbered;
  whole : entries_of l.renumbered ++ values_of l._stamp-iterator ≡ entries_of l.fn.self;
  numbers : l.renumbered.next_stamp ≡ length (entries_of l.renumbered);
}
