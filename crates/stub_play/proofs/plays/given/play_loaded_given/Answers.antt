use Rattle.std.proofs.Common.{◌≡◌, refl}
use Rattle.std.proofs.lemmas.Result.{err_from_is_err_and}
use Rattle.stub_play.specs.Given.{TellsGiven}
use Rattle.stub_play.specs.declared.plays.fault.PlayFault.TheVariants.{Memory}
use Rattle.stub_play.proofs.PlayLaws.{played_given, silent_end, zone_is}
use Rattle.stub_play.proofs.plays.given.play_loaded_given.Goals as goal

pub returns-in_err-link : goal.returns-in_err-link
returns-in_err-link g c =
    let left = err_from_is_err_and c.from_residual.result c.from_residual.ensures.1 in
    let input = c.args.input.now in
    let contents = g.W.Write.contents c.args.writer.now in
    rw (left.1, left.2) (silent_end (TellsGiven input c.args.replies.items) input (c.args.writer.now ≡ c.args.writer.now) contents contents
    Memory (zone_is input c.args.loaded c.requires.loaded) refl)

pub returns : goal.returns
returns g c =
    played_given c.args.input.now c.args.loaded c.requires.loaded c.args.replies.items c.in_ok-link.link c.in_ok-link.ensures
    _ _ _ c.play_over_link.result c.play_over_link.ensures
