use Rattle.std.proofs.Common.{sym, ◌∙◌}
use Rattle.std.specs.Vec.Iter.{into_iter_items}
use Rattle.stub_core.proofs.AttemptsLaws.{OfName, next-leads-on}
use Rattle.stub_core.proofs.attempts.attempt.Goals as goal

pub loop-name-preserved : goal.loop-name-preserved
loop-name-preserved g c =
    next-leads-on (OfName g.C.DnsHandle.gives c.args.options c.args.now c.args.record_type) c.loop-name.last c.loop-name.client
    (into_iter_items c.loop-name.name-iterator) (into_iter_items c.next.new.self) c.in-Some.name c.lookup-last.result
    c.lookup-last.new.self c.args.last c.args.client.now (into_iter_items c.args.names)
    c.loop-name.invariant c.in-Some.ensures.steps.0 (sym c.is_final.ensures ∙ c.if-is_final.false)
    (rw c.query.ensures at c.lookup-last.ensures.lookup)
