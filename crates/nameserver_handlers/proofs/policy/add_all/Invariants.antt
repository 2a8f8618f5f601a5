-- The keys that are added, and those that are left, are all of these.
use Rattle.std.proofs.Common.{◌≡◌, ◌++◌, List}
use Rattle.std.specs.Vec.Iter.{into_iter_items}
use Rattle.dns_tsig.specs.declared.key.Key.{Key}
use Rattle.nameserver_handlers.specs.Grants.{AreDistinct}
use Rattle.nameserver_handlers.proofs.policy.add_all.Given as goal

abbrev pub invariant-loop-key : goal.invariant-loop-key
invariant-loop-key l =
    (before : List Key) × ((l.keys.items ≡ l.fn.keys.items ++ before) × ((l.fn.found.items ≡ before ++ into_iter_items l.key-iterator)
    × (AreDistinct l.keys.items (into_iter_items l.key-iterator) → AreDistinct l.fn.keys.items l.fn.found.items)))
