use Rattle.std.proofs.Common.{sym, ◌∙◌}
use Rattle.stub_core.proofs.StrategiesLaws.{OfType, both-types, both-without-memory}
use Rattle.stub_core.proofs.strategies.one_name.both.Goals as goal

pub returns-then-is_out_of_memory : goal.returns-then-is_out_of_memory
returns-then-is_out_of_memory g c =
    both-without-memory (OfType g.C.DnsHandle.gives c.args.options c.args.hosts.now c.args.now c.args.name.now) c.args.first c.args.second c.args.client.now
    c.one-reply.result c.one-reply.new.client c.one-reply.ensures (sym c.is_out_of_memory.ensures ∙ c.if-is_out_of_memory.true)

pub returns : goal.returns
returns g c =
    both-types (OfType g.C.DnsHandle.gives c.args.options c.args.hosts.now c.args.now c.args.name.now) c.args.first c.args.second c.args.client.now
    c.one-reply.result c.one-reply.new.client c.one-other.result c.one-other.new.client c.join.result
    c.one-reply.ensures (sym c.is_out_of_memory.ensures ∙ c.if-is_out_of_memory.false) c.one-other.ensures c.join.ensures
