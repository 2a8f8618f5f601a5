use Rattle.dns_server.proofs.StreamLaws.{served-on, served-up}
use Rattle.dns_server.proofs.serving.serve_frames.Goals as goal

pub loop-preserved : goal.loop-preserved
loop-preserved g c =
    served-on _ _ _ _ _ _ _ _ c.if-branch.true c.loop.invariant c.in_ok-serve_frame.ensures.ok

pub returns-clause-ok : goal.returns-clause-ok
returns-clause-ok g c =
    served-up _ _ _ _ _ _ _ _ c.if-branch.false c.loop.invariant c.in_ok-serve_frame.ensures.ok
