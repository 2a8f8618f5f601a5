use Rattle.stub_client.specs.Looks.{lookup_settings}
use Rattle.stub_client.proofs.LookUpLaws.{from-the-start, nothing-decided}
use Rattle.stub_client.proofs.caching_client.CachingClient.lookup.Goals as goal

pub returns-clause-lookup : goal.returns-clause-lookup
returns-clause-lookup g c =
    from-the-start g.C.DnsHandle.gives c.args.options c.args.now c.new-none.result c.args.self.now c.args.query
    c.look_up.result c.look_up.new.self c.new-none.ensures c.look_up.ensures

pub returns-clause-decided : goal.returns-clause-decided
returns-clause-decided g c =
    nothing-decided (lookup_settings c.args.self.now c.args.options) c.args.now 0 c.new-none.result c.args.self.now.cache c.args.query
    c.look_up.ensures.asks c.look_up.result c.look_up.new.self.cache c.look_up.ensures.looks
