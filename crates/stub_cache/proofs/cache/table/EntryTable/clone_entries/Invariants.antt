use Rattle.std.proofs.Common.{◌≡◌, drop}
use Rattle.stub_cache.specs.internal.Table.{by_stamp}
use Rattle.stub_cache.proofs.cache.table.EntryTable.clone_entries.Given as goal

-- the copies of the entries in later slots
abbrev pub invariant-loop-slot : goal.invariant-loop-slot
invariant-loop-slot l = l.copies.entries ≡ by_stamp (drop l.slot l.fn.self.slots.slots)
