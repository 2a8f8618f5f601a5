use Rattle.std.proofs.Common.{◌≡◌}
use Rattle.dns_names.specs.Compare.{same_labels}
use Rattle.dns_message_bytes.proofs.view.plain_name.compare.are_same.Given as goal

-- the labels before were equal
abbrev pub invariant-loop-label : goal.invariant-loop-label
invariant-loop-label l = same_labels l.fn.own l.fn.others ≡ same_labels l.own l.label-iterator
