use Rattle.std.proofs.Common.{◌≡◌, map, take}
use Rattle.std.specs.Borrow.{Bor}
use Rattle.dns_records.specs.Record.{Record}
use Rattle.dns_records.specs.edits.Places.{records_in}
use Rattle.dns_records.proofs.edits.edited_records.lend_records.Given as goal

abbrev pub invariant-loop-place : goal.invariant-loop-place
invariant-loop-place l = map (λ (r : Bor Record). r.now) l.lent.items ≡ records_in (take l.place-index l.places)
