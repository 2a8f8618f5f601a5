use Rattle.std.proofs.Common.{drop, length, ◌<◌}
use Rattle.std.specs.List.{AllByRecursion}
use Rattle.dns_message_bytes.proofs.soundness.rdata.are_short.Given as goal

-- those that are left are sound exactly if all are
abbrev pub invariant-loop-string : goal.invariant-loop-string
invariant-loop-string l = record {
  back : AllByRecursion (λ string. length string < 256) (drop l.string-index l.strings) → AllByRecursion (λ string. length string < 256) l.strings;
  forth : AllByRecursion (λ string. length string < 256) l.strings → AllByRecursion (λ string. length string < 256) (drop l.string-index l.strings);
}
