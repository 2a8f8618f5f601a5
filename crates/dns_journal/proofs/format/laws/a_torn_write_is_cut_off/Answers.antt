use Rattle.dns_journal.proofs.JournalLaws.{torn_write_cut}
use Rattle.dns_journal.proofs.format.laws.a_torn_write_is_cut_off.Goals as goal

pub returns : goal.returns
returns c = torn_write_cut
