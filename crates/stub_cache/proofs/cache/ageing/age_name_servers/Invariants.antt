use Rattle.std.proofs.Common.{◌≡◌, ◌++◌, map, take, drop}
use Rattle.stub_cache.specs.Ttl.{aged_referral}
use Rattle.stub_cache.proofs.cache.ageing.age_name_servers.Given as goal

-- the records of the name servers so far are aged
abbrev pub invariant-loop-name_server : goal.invariant-loop-name_server
invariant-loop-name_server l =
    l.name_servers ≡ map (aged_referral l.seconds) (take l.name_server-index l.initial.name_servers) ++ drop l.name_server-index l.initial.name_servers
