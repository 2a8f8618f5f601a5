use Rattle.std.proofs.Common.{◌≡◌, ◌+◌, [], length, map}
use Rattle.dns_faults.specs.table.Text.{rules_from}
use Rattle.dns_faults.proofs.table.text.read_lines.Given as goal

-- the lines that are left complete the table, and each line has its number
abbrev pub invariant-loop-rest : goal.invariant-loop-rest
invariant-loop-rest l = record {
  completes : rules_from l.number l.table (map (λ line. line.now) l.rest) ≡ rules_from 1 [] (map (λ line. line.now) l.lines);
  counted : l.number + length l.rest ≡ 1 + length l.lines;
}

abbrev pub decreases-loop-rest : goal.decreases-loop-rest
decreases-loop-rest l = length l.rest
