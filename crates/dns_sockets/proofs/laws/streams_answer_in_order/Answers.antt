use Rattle.std.proofs.Common.{[], None, refl}
use Rattle.dns_sockets.proofs.StreamWitness.{in_order}
use Rattle.dns_sockets.specs.Connections.{place_in}
use Rattle.dns_sockets.proofs.StreamHistoryLaws.{written_is_front}
use Rattle.dns_sockets.proofs.StreamOrderLaws.{requests_are_first}
use Rattle.dns_sockets.proofs.laws.streams_answer_in_order.Goals as goal

pub returns-clause-requests : goal.returns-clause-requests
returns-clause-requests c = λ new acts follows index. let all = follows index None in requests_are_first index (place_in [] index None) (place_in new index all.0) acts [] [] tt all.1

pub returns-clause-replies : goal.returns-clause-replies
returns-clause-replies c = λ new acts follows index. let all = follows index None in written_is_front index (place_in [] index None) (place_in new index all.0) acts [] [] ([], refl) all.1
