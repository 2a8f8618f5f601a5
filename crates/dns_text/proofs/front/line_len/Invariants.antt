use Rattle.std.proofs.Common.{◌≡◌, drop}
use Rattle.dns_text.specs.Front.{line_from}
use Rattle.dns_text.proofs.front.line_len.Given as goal

-- no line has ended before
abbrev pub invariant-loop-place : goal.invariant-loop-place
invariant-loop-place l = line_from 0 l.text ≡ line_from l.place (drop l.place l.text)
