use Rattle.std.proofs.Common.{length}
use denote.Text.{Utf8}
use denote.Shadow.{shadow}
use Rattle.zone_lines.proofs.SkipLaws.{Continues}
use Rattle.zone_lines.proofs.skip.skip_continuation.Given as goal

-- the lines so far continue the entry
abbrev pub invariant-loop-base : goal.invariant-loop-base
invariant-loop-base l = shadow (Utf8 l.rest) × Continues l.fn.section.base l.fn.section.text.now l.base l.rest

abbrev pub decreases-loop-base : goal.decreases-loop-base
decreases-loop-base l = length l.rest
