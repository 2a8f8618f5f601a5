use Rattle.std.proofs.Common.{sym, ◌∙◌}
use Rattle.stub_core.proofs.StrategiesLaws.{OfType, first-type, second-type}
use Rattle.stub_core.proofs.strategies.one_name.then.Goals as goal

pub returns-then-is_final : goal.returns-then-is_final
returns-then-is_final g c =
    first-type (OfType g.C.DnsHandle.gives c.args.options c.args.hosts.now c.args.now c.args.name.now) c.args.first c.args.second c.args.client.now
    c.one-found.result c.one-found.new.client c.one-found.ensures (sym c.is_final.ensures ∙ c.if-is_final.true)

pub returns : goal.returns
returns g c =
    second-type (OfType g.C.DnsHandle.gives c.args.options c.args.hosts.now c.args.now c.args.name.now) c.args.first c.args.second c.args.client.now
    c.one-found.result c.one-found.new.client c.one.result c.one.new.client
    c.one-found.ensures (sym c.is_final.ensures ∙ c.if-is_final.false) c.one.ensures
