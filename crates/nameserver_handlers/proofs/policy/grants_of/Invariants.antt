use Rattle.std.proofs.Common.{map, take}
use Rattle.std.specs.List.{AllZip}
use Rattle.std.specs.Prelude.{string_bytes}
use Rattle.nameserver_handlers.specs.Grants.{IsGrantOf}
use Rattle.nameserver_handlers.proofs.policy.grants_of.Given as goal

-- the grants of the texts so far
abbrev pub invariant-loop-text : goal.invariant-loop-text
invariant-loop-text l = AllZip (IsGrantOf l.keys l.zones) (map string_bytes (take l.text-index l.texts)) l.grants.items
