use Rattle.std.proofs.Common.{take}
use Rattle.std.specs.List.{AllZip}
use Rattle.lookup_cli.specs.Values.{IsServer}
use Rattle.lookup_cli.proofs.ArgumentsLaws.{texts_now}
use Rattle.lookup_cli.proofs.arguments.servers_of.Given as goal

-- the servers of the texts so far
abbrev pub invariant-loop-text : goal.invariant-loop-text
invariant-loop-text l = AllZip IsServer (texts_now (take l.text-index l.texts)) l.servers.items
