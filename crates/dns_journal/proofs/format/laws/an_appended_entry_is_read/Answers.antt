use Rattle.dns_journal.proofs.JournalLaws.{appended}
use Rattle.dns_journal.proofs.format.laws.an_appended_entry_is_read.Goals as goal

pub returns : goal.returns
returns c = appended
