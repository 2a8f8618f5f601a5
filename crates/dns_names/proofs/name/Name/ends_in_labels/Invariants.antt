use Rattle.std.proofs.Common.{◌≡◌, ◌-◌, drop, map}
use Rattle.dns_names.specs.Compare.{same_labels}
use Rattle.dns_names.proofs.name.Name.ends_in_labels.Given as goal

-- the labels before the index are the same
abbrev pub invariant-loop-index : goal.invariant-loop-index
invariant-loop-index l = same_labels (map (λ label. label.now) l.labels) (drop l.skipped l.self.labels)
    ≡ same_labels (drop (l.index - l.skipped) (map (λ label. label.now) l.labels)) (drop l.index l.self.labels)
