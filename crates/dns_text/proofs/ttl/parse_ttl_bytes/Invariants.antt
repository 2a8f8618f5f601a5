use Rattle.std.proofs.Common.{◌≤◌}
use Rattle.dns_text.specs.internal.Ttl.{total}
use Rattle.dns_text.proofs.TtlLaws.{Underway}
use Rattle.dns_text.proofs.ttl.parse_ttl_bytes.Given as goal

-- what was counted up to here is a time, and no fault came
abbrev pub invariant-loop-place : goal.invariant-loop-place
invariant-loop-place l = record {
  so_far : Underway l.text l.so_far l.place;
  small : total l.so_far ≤ 4294967295;
}
