use Rattle.std.proofs.Common.{◌<◌, length, refl}
use Rattle.std.proofs.lemmas.Option.{slice_get_read}
use Rattle.stub_play.specs.Plays.{IsFirstOutOfOrder}
use Rattle.stub_play.proofs.PlayLaws.{first_at_some, line_beside}
use Rattle.stub_play.proofs.plays.line_out_of_order.Goals as goal

pub returns : goal.returns
returns c =
    let first : IsFirstOutOfOrder c.args.script.now.events.items c.unwrap.result =
    first_at_some IsFirstOutOfOrder c.as_slice.result.now c.args.script.now.events.items c.first_out_of_order.result c.unwrap.result c.as_slice.ensures.value c.unwrap.ensures c.first_out_of_order.ensures.first in
    let below : c.unwrap.result < length c.args.script.now.lines.items = rw c.requires.beside first.is_event in
    line_beside IsFirstOutOfOrder c.args.script.now.lines.items c.args.script.now.events.items c.unwrap.result c.index.result.now c.requires.beside first
    (slice_get_read c.args.script.now.lines.items (length c.args.script.now.lines.items) c.unwrap.result c.index.result.now refl below c.index.ensures)
