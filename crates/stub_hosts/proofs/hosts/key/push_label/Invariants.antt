use Rattle.std.proofs.Common.{◌≡◌, ◌++◌, drop}
use Rattle.stub_hosts.specs.internal.HostKeys.{label_key}
use Rattle.stub_hosts.proofs.hosts.key.push_label.Given as goal

-- the numbers so far, and those that are left
abbrev pub invariant-loop-byte : goal.invariant-loop-byte
invariant-loop-byte l = l.numbers.items ++ label_key (drop l.byte-index l.label) ≡ l.fn.numbers.items ++ label_key l.label
