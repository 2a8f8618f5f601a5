use Rattle.std.proofs.Common.{◌≡◌, ◌-◌, length}
use Rattle.dns_zone.specs.Answer.{after_records, answer_at, max_aliases}
use Rattle.dns_zone.specs.Rows.{zone_of}
use Rattle.dns_zone.specs.Section.{alias_records}
use Rattle.dns_zone.proofs.ChainLaws.{HasAliases}
use Rattle.dns_zone.proofs.zone.chain.answer_along.Given as goal

abbrev pub invariant-loop-i : goal.invariant-loop-i
invariant-loop-i l = record {
  places : length l.aliases ≡ max_aliases;
  so_far : HasAliases l.i l.aliases;
  leads : after_records (alias_records l.aliases) (answer_at (max_aliases - l.i) (zone_of l.origin l.sets) l.query.query_type l.owner)
      ≡ answer_at max_aliases (zone_of l.origin l.sets) l.query.query_type l.query.name;
}
