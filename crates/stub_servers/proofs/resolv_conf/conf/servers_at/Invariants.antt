use Rattle.std.proofs.Common.{◌≡◌, ◌++◌, drop, map}
use Rattle.stub_config.specs.config.{server_of}
use Rattle.stub_servers.specs.resolv_conf.Conf.{connections_of}
use Rattle.stub_servers.proofs.resolv_conf.conf.servers_at.Given as goal

-- the servers at the addresses that are left complete those so far
abbrev pub invariant-loop-address : goal.invariant-loop-address
invariant-loop-address l =
    l.servers.items ++ map (server_of (connections_of l.use_vc)) (drop l.address-index l.addresses)
    ≡ map (server_of (connections_of l.use_vc)) l.addresses
