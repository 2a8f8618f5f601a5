-- What is removed for the rest of the names, is removed for all of them.
use Rattle.std.proofs.Common.{◌≡◌}
use Rattle.std.specs.Vec.Iter.{into_iter_items}
use Rattle.stub_core.specs.Resolver.{cleared_names, with_entries}
use Rattle.stub_core.proofs.resolver.cache.clear_names.Given as goal

abbrev pub invariant-loop-name : goal.invariant-loop-name
invariant-loop-name g l = record {
  removed : cleared_names l.record_type (into_iter_items l.name-iterator) l.client.cache.entries
      ≡ cleared_names l.record_type l.fn.names.items l.fn.client.cache.entries;
  client : l.client ≡ with_entries l.fn.client l.client.cache.entries;
}
