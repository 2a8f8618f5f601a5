use Rattle.std.proofs.Common.{◌≡◌, ◌-◌}
use Rattle.dns_tsig.specs.Skip.{after_records}
use Rattle.dns_tsig.proofs.skip.after_records.Given as goal

-- the records that are left end where all do
abbrev pub invariant-loop : goal.invariant-loop
invariant-loop l = after_records (l.count - l.counter) l.rest ≡ after_records l.fn.count l.fn.bytes
