use Rattle.dns_text.proofs.ReadingLaws.{same_outcome, end_stays, fault_stays}
use Rattle.dns_text.proofs.laws.lexing_is_deterministic.Goals as goal

pub returns : goal.returns
returns c = record { same = same_outcome; end_stays = end_stays; fault_stays = fault_stays }
