use Rattle.std.proofs.Common.{◌≡◌, refl}
use Rattle.std.proofs.lemmas.Result.{err_from_is_err_and}
use Rattle.stub_play.specs.Plays.{TellsOver}
use Rattle.stub_play.proofs.PlayLaws.{played_over_sockets, unopened_end}
use Rattle.stub_play.proofs.plays.sockets.play_over_sockets.Goals as goal

pub returns-in_err-link : goal.returns-in_err-link
returns-in_err-link g c =
    let left = err_from_is_err_and c.from_residual.result c.from_residual.ensures.1 in
    let contents = g.W.Write.contents c.args.writer.now in
    rw (left.1, left.2) (unopened_end (TellsOver _ c.args.input.now) c.args.input.now (c.args.writer.now ≡ c.args.writer.now) contents contents
    c.in_err-link.field-0.0 c.args.loaded c.requires.loaded c.requires.udp refl)

pub returns : goal.returns
returns g c =
    played_over_sockets c.args.input.now c.args.loaded c.requires.loaded c.in_ok-link.link c.in_ok-link.ensures.zone c.in_ok-link.ensures.limit
    _ _ _ c.play_over_link.result c.play_over_link.ensures
