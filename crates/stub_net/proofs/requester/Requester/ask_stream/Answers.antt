use Rattle.std.proofs.Common.{Ok, Err, refl}
use Rattle.stub_link.specs.declared.link.LinkError.TheVariants.{Failed, Memory}
use Rattle.stub_net.specs.Try.{no_memory_for_stream, stream_fails}
use Rattle.stub_net.proofs.requester.Requester.ask_stream.Goals as goal

pub returns-in-Ok : goal.returns-in-Ok
returns-in-Ok g c = record {
  deadline = c.deadline-deadline.result;
  mid = c.deadline-deadline.new.self;
  result = Ok c.in-Ok.reply.items;
  network = c.ask_stream.new.self;
  reads = rw c.saturating_add-self.ensures at c.deadline-deadline.ensures;
  streams = c.in-Ok.ensures;
  ends = c.stream_outcome.ensures;
  new_is = refl;
}

pub returns-in-Err-Failed : goal.returns-in-Err-Failed
returns-in-Err-Failed g c = record {
  deadline = c.deadline-deadline.result;
  mid = c.deadline-deadline.new.self;
  result = Err Failed;
  network = c.ask_stream.new.self;
  reads = rw c.saturating_add-self.ensures at c.deadline-deadline.ensures;
  streams = rw c.in-Err-Failed.field-0-is at c.in-Err-Failed.ensures;
  ends = stream_fails;
  new_is = refl;
}

pub returns-in-Err-Memory : goal.returns-in-Err-Memory
returns-in-Err-Memory g c = record {
  deadline = c.deadline-deadline.result;
  mid = c.deadline-deadline.new.self;
  result = Err Memory;
  network = c.ask_stream.new.self;
  reads = rw c.saturating_add-self.ensures at c.deadline-deadline.ensures;
  streams = rw c.in-Err-Memory.field-0-is at c.in-Err-Memory.ensures;
  ends = no_memory_for_stream;
  new_is = refl;
}
