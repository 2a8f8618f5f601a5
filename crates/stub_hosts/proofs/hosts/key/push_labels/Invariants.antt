use Rattle.std.proofs.Common.{◌≡◌, ◌++◌, length}
use Rattle.stub_hosts.specs.internal.HostKeys.{labels_key}
use Rattle.stub_hosts.proofs.hosts.key.push_labels.Given as goal

-- the keys so far, and those of the labels that are left
abbrev pub invariant-loop-label : goal.invariant-loop-label
invariant-loop-label l = l.numbers.items ++ labels_key l.labels ≡ l.fn.numbers.items ++ labels_key l.fn.name.labels

abbrev pub decreases-loop-label : goal.decreases-loop-label
decreases-loop-label l = length l.labels
