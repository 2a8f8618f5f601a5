use Rattle.std.proofs.Common.{◌≡◌, ◌++◌, [], ◌∷◌, drop}
use Rattle.stub_hosts.specs.internal.HostKeys.{parts_key}
use Rattle.stub_hosts.proofs.hosts.key.push_parts.Given as goal

-- the numbers so far, and those that are left
abbrev pub invariant-loop-part : goal.invariant-loop-part
invariant-loop-part l = l.numbers.items ++ parts_key (drop l.part-index l.parts) (l.end ∷ []) ≡ l.fn.numbers.items ++ parts_key l.parts (l.end ∷ [])
