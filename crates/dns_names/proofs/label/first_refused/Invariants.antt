use Rattle.std.proofs.Common.{◌≡◌, drop}
use Rattle.dns_names.specs.Label.{refused_from}
use Rattle.dns_names.proofs.label.first_refused.Given as goal

-- nothing before was refused
abbrev pub invariant-loop-place : goal.invariant-loop-place
invariant-loop-place l = refused_from 0 l.text ≡ refused_from l.place (drop l.place l.text)
