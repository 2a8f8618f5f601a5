use Rattle.std.proofs.Common.{List, ℕ, map, take}
use Rattle.std.specs.Borrow.{Bor}
use Rattle.std.specs.List.{AllZip}
use Rattle.nameserver_cli.specs.Addresses.{IsAddress}
use Rattle.nameserver_cli.proofs.arguments.addresses_of.Given as goal

-- the addresses of the values so far
abbrev pub invariant-loop-value : goal.invariant-loop-value
invariant-loop-value l = AllZip IsAddress (map (λ (value : Bor (List ℕ)). value.now) (take l.value-index l.values)) l.addresses.items
