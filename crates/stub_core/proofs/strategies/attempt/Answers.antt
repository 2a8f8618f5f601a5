use Rattle.std.proofs.Common.{sym, ◌∙◌}
use Rattle.std.specs.Vec.Iter.{into_iter_items}
use Rattle.stub_core.proofs.AttemptsLaws.{next-leads-on, no-more-names, no-name}
use Rattle.stub_core.proofs.StrategiesLaws.{OfAddresses}
use Rattle.stub_core.proofs.strategies.attempt.Goals as goal

pub loop-name-preserved : goal.loop-name-preserved
loop-name-preserved g c =
    next-leads-on (OfAddresses g.C.DnsHandle.gives c.args.options c.args.strategy c.args.hosts.now c.args.now)
    c.loop-name.last c.loop-name.client (into_iter_items c.loop-name.name-iterator) (into_iter_items c.next.new.self)
    c.in-Some.name c.look_up_addresses-last.result c.look_up_addresses-last.new.client c.args.last c.args.client.now (into_iter_items c.args.names)
    c.loop-name.invariant c.in-Some.ensures.steps.0 (sym c.is_final.ensures ∙ c.if-is_final.false) c.look_up_addresses-last.ensures

pub returns-then-is_final : goal.returns-then-is_final
returns-then-is_final g c =
    c.loop-name.invariant c.loop-name.last c.loop-name.client
    (no-more-names (OfAddresses g.C.DnsHandle.gives c.args.options c.args.strategy c.args.hosts.now c.args.now) c.loop-name.last c.loop-name.client (into_iter_items c.loop-name.name-iterator)
    (sym c.is_final.ensures ∙ c.if-is_final.true))

pub returns : goal.returns
returns g c =
    c.loop-name.invariant c.loop-name.last c.loop-name.client
    (no-name (OfAddresses g.C.DnsHandle.gives c.args.options c.args.strategy c.args.hosts.now c.args.now) c.loop-name.last c.loop-name.client (into_iter_items c.loop-name.name-iterator)
    (sym c.loop-name.name-iterator.rest.ok.0 ∙ c.in-None.ensures.steps.0))
