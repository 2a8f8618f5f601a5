use Rattle.dns_wire.proofs.ItemLaws.{append_pieces-behind}
use Rattle.dns_wire.proofs.PieceLaws.{targets-behind}
use Rattle.dns_wire.proofs.laws.suffixes_start_before_the_offset.Goals as goal

pub returns-clause-targets : goal.returns-clause-targets
returns-clause-targets c = λ w end stand. targets-behind w end stand

pub returns-clause-after_writes : goal.returns-clause-after_writes
returns-clause-after_writes c = λ w ps behind. append_pieces-behind w ps behind
