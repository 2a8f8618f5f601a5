use Rattle.std.proofs.Common.{Ok}
use Rattle.stub_net.proofs.signed.network.SignedNetworkNetwork.ask_stream.Goals as goal

pub returns-in-Ok : goal.returns-in-Ok
returns-in-Ok g c = record {
  signed = Ok c.in-Ok.signed.items;
  mid = c.sign.new.self;
  signs = c.in-Ok.ensures;
  after = rw c.as_slice.ensures.value at c.ask_signed.ensures;
}
