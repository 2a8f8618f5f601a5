use Rattle.std.proofs.Common.{◌≡◌, ◌+◌, ◌≤◌, ◌++◌, drop, map, take, vec_capacity, vec_len}
use Rattle.dns_records.specs.edits.Places.{records_in}
use Rattle.dns_records.proofs.PlaceLaws.{empty_each}
use Rattle.dns_records.proofs.edits.edited_records.move_records.Given as goal

abbrev pub invariant-loop-place : goal.invariant-loop-place
invariant-loop-place l =
    (l.moved.items ≡ l.fn.moved.items ++ records_in (take l.place-index l.fn.places))
    × (vec_len l.moved ≤ vec_len l.fn.moved + l.place-index)
    × (vec_capacity l.moved ≡ vec_capacity l.fn.moved)
    × (l.places ≡ map empty_each (take l.place-index l.fn.places) ++ drop l.place-index l.fn.places)
