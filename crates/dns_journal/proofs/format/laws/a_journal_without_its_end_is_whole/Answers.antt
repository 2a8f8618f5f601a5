use Rattle.dns_journal.proofs.JournalLaws.{without_end}
use Rattle.dns_journal.proofs.format.laws.a_journal_without_its_end_is_whole.Goals as goal

pub returns : goal.returns
returns c = without_end
