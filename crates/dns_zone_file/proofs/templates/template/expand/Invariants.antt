use Rattle.std.proofs.Common.{◌≡◌, ◌-◌, ◌≤◌, Ok, drop, length}
use Rattle.dns_zone_file.specs.templates.Template.{joined, expanded}
use Rattle.dns_zone_file.proofs.templates.template.expand.Given as goal

-- the rest of the template completes the text
abbrev pub invariant-loop-place : goal.invariant-loop-place
invariant-loop-place l = record {
  completes : joined (Ok l.text.items) (expanded l.number (drop l.place l.template)) ≡ expanded l.number l.template;
  within : l.place ≤ length l.template;
}

abbrev pub decreases-loop-place : goal.decreases-loop-place
decreases-loop-place l = length l.template - l.place
