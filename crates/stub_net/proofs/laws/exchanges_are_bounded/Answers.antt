use Rattle.stub_net.proofs.BoundLaws.{exchange-count}
use Rattle.stub_net.proofs.laws.exchanges_are_bounded.Goals as goal

pub returns : goal.returns
returns g c = λ count by_send by_datagram by_end by_stream m old new outcome k e. exchange-count _ count by_send by_datagram by_end by_stream m old new outcome k e
