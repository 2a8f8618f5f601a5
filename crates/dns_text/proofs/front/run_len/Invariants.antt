use Rattle.std.proofs.Common.{◌≡◌, false, drop}
use Rattle.dns_text.specs.Front.{run_from}
use Rattle.dns_text.specs.internal.Front.{run_of}
use Rattle.dns_text.proofs.front.run_len.Given as goal

-- the run goes on here
abbrev pub invariant-loop-place : goal.invariant-loop-place
invariant-loop-place l = run_from (run_of l.run) false 0 l.text ≡ run_from (run_of l.run) l.is_escaped l.place (drop l.place l.text)
