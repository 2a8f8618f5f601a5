use Rattle.std.proofs.Common.{◌≡◌, List, ℕ, map, take, string_bytes}
use Rattle.std.specs.Borrow.{Bor}
use Rattle.nameserver_cli.proofs.arguments.copies_of.Given as goal

-- the texts so far are copied
abbrev pub invariant-loop-text : goal.invariant-loop-text
invariant-loop-text l = map string_bytes l.copies.items ≡ map (λ (text : Bor (List ℕ)). text.now) (take l.text-index l.texts)
