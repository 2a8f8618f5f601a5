use Rattle.std.proofs.Common.{◌≡◌, refl}
use Rattle.std.proofs.lemmas.Result.{err_from_is_err_and}
use Rattle.stub_play.specs.Given.{TellsGiven}
use Rattle.stub_play.proofs.PlayLaws.{silent_end}
use Rattle.stub_play.proofs.plays.given.play_given.Goals as goal

pub returns-in_err-loaded : goal.returns-in_err-loaded
returns-in_err-loaded g c =
    let left = err_from_is_err_and c.from_residual.result c.from_residual.ensures.1 in
    let input = c.args.input.now in
    let contents = g.W.Write.contents c.args.writer.now in
    rw (left.1, left.2) (silent_end (TellsGiven input c.args.replies.items) input (c.args.writer.now ≡ c.args.writer.now) contents contents
    c.in_err-loaded.field-0.0 c.in_err-loaded.ensures.fault.1 refl)
