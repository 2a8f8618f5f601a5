use Rattle.std.proofs.Common.{◌≡◌, map, take}
use Rattle.lookup_cli.specs.Settings.{server_at}
use Rattle.lookup_cli.proofs.settings.servers_at.Given as goal

-- the servers at the addresses so far
abbrev pub invariant-loop-address : goal.invariant-loop-address
invariant-loop-address l = l.servers.items ≡ map server_at (take l.address-index l.addresses)
