use Rattle.dns_text.proofs.TtlLaws.{begins_none}
use Rattle.dns_text.proofs.laws.prefixes_of_times_are_times.Goals as goal

pub returns : goal.returns
returns c = begins_none
