use Rattle.std.proofs.Common.{sym}
use Rattle.dns_messages.proofs.HeaderLaws.{metadata_again}
use Rattle.dns_messages.proofs.header.metadata_round_trips.Goals as goal

pub returns : goal.returns
returns c = λ m s. sym (metadata_again m s)
