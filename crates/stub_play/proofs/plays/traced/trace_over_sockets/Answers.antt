use Rattle.std.proofs.Common.{◌≡◌, refl, ap, ◌∙◌}
use Rattle.std.proofs.lemmas.Result.{err_from_is_err_and}
use Rattle.stub_play.specs.Plays.{TellsOver}
use Rattle.stub_play.proofs.PlayLaws.{played_as, played_over_sockets, unopened_end}
use Rattle.stub_play.proofs.plays.traced.trace_over_sockets.Goals as goal

pub returns-in_err-inner : goal.returns-in_err-inner
returns-in_err-inner g c =
    let left = err_from_is_err_and c.from_residual.result c.from_residual.ensures.1 in
    let contents = g.W.Write.contents c.args.writer.now in
    rw (left.1, left.2) (unopened_end (TellsOver _ c.args.input.now) c.args.input.now (c.args.writer.now ≡ c.args.writer.now) contents contents
    c.in_err-inner.field-0.0 c.args.loaded c.requires.loaded c.requires.udp refl)

pub returns : goal.returns
returns g c =
    let traced = c.new-link.result in
    played_over_sockets c.args.input.now c.args.loaded c.requires.loaded traced.link (ap (λ l. l.zone) c.new-link.ensures.link ∙ c.in_ok-inner.ensures.zone)
    (ap (λ l. l.limit) c.new-link.ensures.link ∙ c.in_ok-inner.ensures.limit) _ _ _ c.play_over_link.result
    (played_as _ _ c.args.input.now traced traced.link c.args.loaded.hosts c.args.loaded.script _ _ _ c.play_over_link.result
    (c.traced_resolvers_run_as_others.ensures traced) c.play_over_link.ensures)
