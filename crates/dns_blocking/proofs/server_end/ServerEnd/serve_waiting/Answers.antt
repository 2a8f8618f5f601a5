use Rattle.std.proofs.Common.{◌<◌, ◌+◌, arith}
use Rattle.dns_blocking.specs.Serving.{nothing, one_more}
use Rattle.dns_blocking.proofs.server_end.ServerEnd.serve_waiting.Goals as goal

pub loop-served-init : goal.loop-served-init
loop-served-init g c = nothing 0

pub returns-in_err-serve_next : goal.returns-in_err-serve_next
returns-in_err-serve_next g c =
    let below : c.loop-served._served < 1024 = omega arith in
    one_more c.loop-served._served 1024 _ _ below c.loop-served.invariant c.serve_next.ensures

pub returns-then-not-branch : goal.returns-then-not-branch
returns-then-not-branch g c =
    let below : c.loop-served._served < 1024 = omega arith in
    one_more c.loop-served._served 1024 _ _ below c.loop-served.invariant c.serve_next.ensures

pub loop-served-preserved : goal.loop-served-preserved
loop-served-preserved g c =
    let below : c.loop-served._served < c.loop-served._served + 1 = omega arith in
    one_more c.loop-served._served (c.loop-served._served + 1) _ _ below c.loop-served.invariant c.serve_next.ensures
