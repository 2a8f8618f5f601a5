use Rattle.std.proofs.Common.{◌≡◌, ◌≤◌, length}
use Rattle.dns_keys.specs.Blanks.{after_blanks}
use Rattle.dns_keys.specs.declared.blanks.Mode.TheVariants.{Between}
use Rattle.dns_keys.proofs.blanks.after_blanks.Given as goal

-- the rest of the text has the same end
abbrev pub invariant-loop-rest : goal.invariant-loop-rest
invariant-loop-rest l = record {
  same : after_blanks l.mode l.rest ≡ after_blanks Between l.fn.text;
  no_longer : length l.rest ≤ length l.fn.text;
}

abbrev pub decreases-loop-rest : goal.decreases-loop-rest
decreases-loop-rest l = length l.rest
