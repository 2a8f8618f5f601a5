use Rattle.std.proofs.Common.{arith}
use Rattle.dns_records.proofs.PlaceLaws.{first_at, none_so_far, none_yet}
use Rattle.dns_records.proofs.edits.edited_records.first_of.Goals as goal

pub loop-place-init : goal.loop-place-init
loop-place-init c = none_yet

pub returns-in-Some : goal.returns-in-Some
returns-in-Some c = first_at c.args.places.now c.loop-place.place-index c.place-item.result c.in-Some.present (omega arith) c.place-item.is c.in-Some.is c.loop-place.invariant

pub loop-place-preserved : goal.loop-place-preserved
loop-place-preserved c = none_so_far c.args.places.now c.loop-place.place-index c.place-item.result (omega arith) c.place-item.is c.in_default.is c.loop-place.invariant
