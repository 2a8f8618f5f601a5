use Rattle.std.proofs.Common.{sym, ◌∙◌}
use Rattle.zone_lines.proofs.PlacesLaws.{kept, put}
use Rattle.zone_lines.proofs.warnings.places.note.Goals as goal

pub returns-then-contains_key : goal.returns-then-contains_key
returns-then-contains_key c = kept c.args.first.now c.args.owner.now c.args.place (sym c.contains_key.ensures ∙ c.if-contains_key.true)

pub returns : goal.returns
returns c =
    put c.args.first.now c.insert.new.self c.in_ok-clone.field-0 c.args.owner.now c.args.place c.in_ok-clone.ensures.ok
    (sym c.contains_key.ensures ∙ c.if-contains_key.false) c.in_ok-insert.ensures.updates
