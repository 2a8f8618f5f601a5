use Rattle.std.proofs.Common.{List, ℕ, map, take}
use Rattle.std.specs.Borrow.{Bor}
use Rattle.nameserver_cli.specs.Addresses.{AddsPrefixes}
use Rattle.nameserver_cli.proofs.arguments.add_prefixes.Given as goal

-- the prefixes of the values so far are added
abbrev pub invariant-loop-value : goal.invariant-loop-value
invariant-loop-value l = AddsPrefixes l.initial.addresses (map (λ (value : Bor (List ℕ)). value.now) (take l.value-index l.values)) l.addresses
