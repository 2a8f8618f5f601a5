use Rattle.std.proofs.Common.{[], None}
use Rattle.dns_sockets.specs.Connections.{place_in}
use Rattle.dns_sockets.proofs.BoundLaws.{follows_bounded}
use Rattle.dns_sockets.proofs.laws.unhandled_bytes_are_bounded.Goals as goal

pub returns-clause-place : goal.returns-clause-place
returns-clause-place c = λ index accepted acts left follows. follows_bounded index acts (record { accepted = accepted; connection = None }) left tt follows

pub returns-clause-service : goal.returns-clause-service
returns-clause-service c = λ new acts follows index. let all = follows index None in follows_bounded index acts (place_in [] index None) (place_in new index all.0) tt all.1
