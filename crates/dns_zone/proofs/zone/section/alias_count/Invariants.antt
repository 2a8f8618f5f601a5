use Rattle.std.proofs.Common.{◌≡◌, ◌≤◌, ◌+◌, drop, length}
use Rattle.dns_zone.specs.Section.{alias_records}
use Rattle.dns_zone.proofs.zone.section.alias_count.Given as goal

abbrev pub invariant-loop-alias : goal.invariant-loop-alias
invariant-loop-alias l = record {
  counts : l.count + length (alias_records (drop l.alias-index l.aliases)) ≡ length (alias_records l.aliases);
  most : l.count ≤ l.alias-index;
}
