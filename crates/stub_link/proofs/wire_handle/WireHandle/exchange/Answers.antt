use Rattle.std.proofs.Common.{◌≡◌, ℕ, Ok, Err, refl, sym, ap, subst, arith}
use Rattle.std.specs.Option.{option_copied}
use Rattle.stub_link.specs.declared.link.LinkError.TheVariants.{Failed, Memory}
use Rattle.stub_link.specs.Link.{calls_of, wire}
use Rattle.stub_link.specs.Wait.{Wait}
use Rattle.stub_link.specs.WireHandle.{asker_of}
use Rattle.stub_link.proofs.Waiting.{fails-from}
use Rattle.stub_link.proofs.wire_handle.WireHandle.exchange.Goals as goal

pub returns-in-Err-Failed-clause-sent : goal.returns-in-Err-Failed-clause-sent
returns-in-Err-Failed-clause-sent g c = λ m encodes same. record {
  encodes = encodes;
  result = Err Failed;
  link = c.send_datagram.new.self;
  sends = rw c.in-Err-Failed.field-0-is at c.in-Err-Failed.ensures.sends;
  after = (refl, refl);
}

pub returns-in-Err-Memory-clause-sent : goal.returns-in-Err-Memory-clause-sent
returns-in-Err-Memory-clause-sent g c = λ m encodes same. record {
  encodes = encodes;
  result = Err Memory;
  link = c.send_datagram.new.self;
  sends = rw c.in-Err-Memory.field-0-is at c.in-Err-Memory.ensures.sends;
  after = (refl, refl);
}

pub returns-clause-sent : goal.returns-clause-sent
returns-clause-sent g c = λ m encodes same. record {
  encodes = encodes;
  result = Ok tt;
  link = c.send_datagram.new.self;
  sends = c.in-Ok.ensures.sends;
  after = record {
    link = c.wait.new.link;
    dropped = c.wait.new.dropped;
    waits = subst (λ (id : ℕ). Wait wire (calls_of g.L.Link.sends g.L.Link.receives g.L.Link.streams) 16 id (option_copied c.args.question) c.send_datagram.new.self c.args.self.now.dropped c.wait.result c.wait.new.link c.wait.new.dropped) (sym same) c.wait.ensures.waits;
    new_is = ap (λ (n : ℕ). record (asker_of c.args.self.now) { link = c.wait.new.link; dropped = c.wait.new.dropped; questions = n }) c.questions_after-self.ensures;
  };
}

pub returns-clause-kept : goal.returns-clause-kept
returns-clause-kept g c = omega (arith, c.in-Ok.ensures.kept, c.wait.ensures.kept)

pub returns-clause-failed : goal.returns-clause-failed
returns-clause-failed g c = fails-from c.wait.result (g.L.Link.failure_count c.args.self.now.link) (g.L.Link.failure_count c.send_datagram.new.self) (g.L.Link.failure_count c.wait.new.link) c.in-Ok.ensures.kept c.wait.ensures.failed
