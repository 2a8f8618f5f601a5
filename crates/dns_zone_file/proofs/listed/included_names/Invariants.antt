use Rattle.std.proofs.Common.{map, length}
use Rattle.dns_zone_file.proofs.ListedLaws.{Continues}
use Rattle.dns_zone_file.proofs.listed.included_names.Given as goal

-- the names of the rest come after those that were found
abbrev pub invariant-loop-tokens : goal.invariant-loop-tokens
invariant-loop-tokens l = Continues l.initial.lexer (map (λ name. name.now) l.names.items) l.lexer

abbrev pub decreases-loop-tokens : goal.decreases-loop-tokens
decreases-loop-tokens l = length l.lexer.text
