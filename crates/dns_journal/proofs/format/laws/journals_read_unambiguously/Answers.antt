use Rattle.dns_journal.proofs.JournalLaws.{one_journal}
use Rattle.dns_journal.proofs.format.laws.journals_read_unambiguously.Goals as goal

pub returns : goal.returns
returns c = one_journal
