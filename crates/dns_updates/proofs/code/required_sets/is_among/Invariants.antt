use Rattle.std.proofs.Common.{◌≡◌, drop, map}
use Rattle.dns_records.specs.Record.{Record}
use Rattle.dns_updates.specs.Records.{is_among}
use Rattle.dns_updates.proofs.code.required_sets.is_among.Given as goal

abbrev pub invariant-loop-present : goal.invariant-loop-present
invariant-loop-present l = is_among (map (λ (r : Record). r.rdata) (drop l.present-index l.records)) l.rdata ≡ is_among (map (λ (r : Record). r.rdata) l.records) l.rdata
