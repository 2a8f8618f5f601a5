use Rattle.stub_play.proofs.PlayLaws.{if_err}
use Rattle.stub_play.proofs.plays.play.Goals as goal

pub returns-in_ok-loaded-clause-stopped_over : goal.returns-in_ok-loaded-clause-stopped_over
returns-in_ok-loaded-clause-stopped_over g c =
    if_err _ _ c.play_over_sockets.result (λ fault stopped is udp. stopped is) c.play_over_sockets.ensures.stopped
