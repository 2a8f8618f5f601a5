use Rattle.dns_journal.proofs.JournalLaws.{new_journal}
use Rattle.dns_journal.proofs.format.laws.a_header_is_a_journal.Goals as goal

pub returns : goal.returns
returns c = new_journal
