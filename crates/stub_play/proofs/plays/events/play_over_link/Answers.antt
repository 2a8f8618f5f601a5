use Rattle.std.proofs.Common.{refl, inl, inr}
use Rattle.std.proofs.lemmas.Result.{err_from_is_err_and}
use Rattle.stub_play.proofs.plays.events.play_over_link.Goals as goal

pub returns-in_err-resolver : goal.returns-in_err-resolver
returns-in_err-resolver g c =
    let left = err_from_is_err_and c.from_residual.result c.from_residual.ensures.1 in
    rw (left.1, left.2) (inl (refl, refl))

pub returns : goal.returns
returns g c = inr (c.in_ok-resolver.resolver, c.in_ok-resolver.ensures, c.play_events.ensures)
