use Rattle.std.proofs.Common.{◌∙◌, ap, arith, set}
use Rattle.stub_cache.proofs.ClampingLaws.{write_each}
use Rattle.stub_cache.specs.Ttl.{aged_referral}
use Rattle.stub_cache.proofs.cache.ageing.age_name_servers.Goals as goal

pub loop-name_server-preserved : goal.loop-name_server-preserved
loop-name_server-preserved c =
    ap (set c.loop-name_server.name_servers c.loop-name_server.name_server-index) c.age_name_server.ensures
    ∙ write_each (aged_referral c.args.seconds) c.args.name_servers.now c.loop-name_server.name_servers c.loop-name_server.name_server-index
    c.name_server-item.result (omega arith) c.loop-name_server.invariant c.name_server-item.is
