use Rattle.std.proofs.Common.{◌≡◌, length, take}
use Rattle.dns_records.specs.edits.Places.{records_in}
use Rattle.dns_records.proofs.edits.edited_records.copy_records.Given as goal

abbrev pub invariant-loop-present : goal.invariant-loop-present
invariant-loop-present l = (records_in l.places.items ≡ take l.present-index l.records) × (length l.places.items ≡ l.present-index)
