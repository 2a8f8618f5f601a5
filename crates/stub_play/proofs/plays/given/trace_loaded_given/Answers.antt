use Rattle.std.proofs.Common.{◌≡◌, refl, subst, sym}
use Rattle.std.proofs.lemmas.Result.{err_from_is_err_and}
use Rattle.stub_play.specs.Given.{IsGivenLink, TellsGiven}
use Rattle.stub_play.specs.declared.plays.fault.PlayFault.TheVariants.{Memory}
use Rattle.stub_play.proofs.PlayLaws.{played_as, played_given, silent_end, zone_is}
use Rattle.stub_play.proofs.plays.given.trace_loaded_given.Goals as goal

pub returns-in_err-inner : goal.returns-in_err-inner
returns-in_err-inner g c =
    let left = err_from_is_err_and c.from_residual.result c.from_residual.ensures.1 in
    let input = c.args.input.now in
    let contents = g.W.Write.contents c.args.writer.now in
    rw (left.1, left.2) (silent_end (TellsGiven input c.args.replies.items) input (c.args.writer.now ≡ c.args.writer.now) contents contents
    Memory (zone_is input c.args.loaded c.requires.loaded) refl)

pub returns : goal.returns
returns g c =
    let traced = c.new-link.result in
    played_given c.args.input.now c.args.loaded c.requires.loaded c.args.replies.items traced.link
    (subst (λ l. IsGivenLink c.args.loaded.zone c.args.input.now.limit c.args.loaded.script.lines.items c.args.replies.items l)
    (sym c.new-link.ensures.link) c.in_ok-inner.ensures) _ _ _ c.play_over_link.result
    (played_as _ _ c.args.input.now traced traced.link c.args.loaded.hosts c.args.loaded.script _ _ _ c.play_over_link.result
    (c.traced_resolvers_run_as_others.ensures traced) c.play_over_link.ensures)
