use Rattle.std.proofs.Common.{sym}
use Rattle.zone_lines.proofs.PlacesLaws.{none_found, one_found}
use Rattle.zone_lines.proofs.warnings.places.Places.of.Goals as goal

pub loop-place-preserved-in-None : goal.loop-place-preserved-in-None
loop-place-preserved-in-None c =
    none_found c.args.property c.args.entries.now c.loop-place.place c.index-entries-place.result c.loop-place-test.true c.index-entries-place.is
    c.loop-place.first c.loop-place.invariant (sym c.in-None.ensures)

pub loop-place-preserved : goal.loop-place-preserved
loop-place-preserved c =
    one_found c.args.property c.args.entries.now c.loop-place.place c.index-entries-place.result c.loop-place-test.true c.index-entries-place.is
    c.loop-place.first c.note.new.first c.in-Some.name.now c.loop-place.invariant (sym c.in-Some.ensures) c.in_ok-note-in-Some.ensures
