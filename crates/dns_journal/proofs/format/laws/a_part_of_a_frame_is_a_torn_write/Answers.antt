use Rattle.dns_journal.proofs.TornLaws.{frame_part}
use Rattle.dns_journal.proofs.format.laws.a_part_of_a_frame_is_a_torn_write.Goals as goal

pub returns : goal.returns
returns c key payload link place n few = frame_part key link place payload n few
