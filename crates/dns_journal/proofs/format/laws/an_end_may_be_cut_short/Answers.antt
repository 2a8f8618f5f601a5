use Rattle.dns_journal.proofs.JournalLaws.{end_cut_short}
use Rattle.dns_journal.proofs.format.laws.an_end_may_be_cut_short.Goals as goal

pub returns : goal.returns
returns c = end_cut_short
