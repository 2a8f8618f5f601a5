use Rattle.std.proofs.Common.{drop}
use Rattle.std.specs.List.{AllByRecursion}
use Rattle.dns_messages.specs.Sound.{IsSoundQuery}
use Rattle.dns_message_bytes.proofs.soundness.message.are_sound_queries.Given as goal

-- those that are left are sound exactly if all are
abbrev pub invariant-loop-query : goal.invariant-loop-query
invariant-loop-query l = record {
  back : AllByRecursion (IsSoundQuery) (drop l.query-index l.queries) → AllByRecursion (IsSoundQuery) l.queries;
  forth : AllByRecursion (IsSoundQuery) l.queries → AllByRecursion (IsSoundQuery) (drop l.query-index l.queries);
}
