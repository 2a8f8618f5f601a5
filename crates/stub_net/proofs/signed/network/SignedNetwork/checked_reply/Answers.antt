use Rattle.std.proofs.Common.{refl}
use Rattle.stub_net.proofs.signed.network.SignedNetwork.checked_reply.Goals as goal

pub returns-in-Ok-Ok : goal.returns-in-Ok-Ok
returns-in-Ok-Ok g c = record {
  time = c.time-now.result;
  mid = c.time-now.new.self;
  reads = c.time-now.ensures;
  after = (c.in-Ok-Ok.accepted.error, rw c.in-Ok-Ok.field-0-is at c.in-Ok-Ok.ensures, refl);
}

pub returns-in-Ok-Err : goal.returns-in-Ok-Err
returns-in-Ok-Err g c = record {
  time = c.time-now.result;
  mid = c.time-now.new.self;
  reads = c.time-now.ensures;
  after = (c.in-Ok-Err.refusal, rw c.in-Ok-Err.field-0-is at c.in-Ok-Err.ensures, c.count_refusal.ensures);
}
