use Rattle.std.proofs.Common.{Ok, refl}
use Rattle.stub_net.proofs.signed.network.SignedNetworkNetwork.send.Goals as goal

pub returns-in-Ok : goal.returns-in-Ok
returns-in-Ok g c = record {
  signed = Ok c.in-Ok.signed.items;
  mid = c.sign.new.self;
  signs = c.in-Ok.ensures;
  after = (c.send.new.self, rw c.as_slice.ensures.value at c.send.ensures, refl);
}
