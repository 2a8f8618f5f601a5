use Rattle.std.proofs.Common.{◌≡◌, [], take}
use Rattle.dns_records.specs.edits.Places.{records_in}
use Rattle.dns_records.proofs.edits.edited_records.first_of.Given as goal

abbrev pub invariant-loop-place : goal.invariant-loop-place
invariant-loop-place l = records_in (take l.place-index l.places) ≡ []
