-- What the rest of the names leads to, all of them lead to.
use Rattle.std.specs.Vec.Iter.{into_iter_items}
use Rattle.stub_core.proofs.AttemptsLaws.{LeadsOn}
use Rattle.stub_core.proofs.StrategiesLaws.{OfAddresses}
use Rattle.stub_core.proofs.strategies.attempt.Given as goal

abbrev pub invariant-loop-name : goal.invariant-loop-name
invariant-loop-name g l =
    LeadsOn (OfAddresses g.C.DnsHandle.gives l.options l.strategy l.hosts l.now) l.last l.client
    (into_iter_items l.name-iterator) l.fn.last l.fn.client (into_iter_items l.fn.names)
