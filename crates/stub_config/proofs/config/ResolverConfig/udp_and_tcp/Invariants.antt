use Rattle.std.proofs.Common.{◌≡◌, ◌++◌, drop, map}
use Rattle.stub_config.specs.config.{server_of, both_connections}
use Rattle.stub_config.proofs.config.ResolverConfig.udp_and_tcp.Given as goal

-- the servers made so far, and those of the addresses that are left
abbrev pub invariant-loop-ip : goal.invariant-loop-ip
invariant-loop-ip l =
    l.servers.items ++ map (server_of both_connections) (drop l.ip-index l.config.ips.now)
    ≡ map (server_of both_connections) l.config.ips.now
