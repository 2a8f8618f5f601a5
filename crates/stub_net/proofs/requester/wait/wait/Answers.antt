use Rattle.std.proofs.Common.{◌≡◌, ◌-◌, ◌+◌, ◌^◌, arith}
use Rattle.stub_net.specs.Wait.{deadline_passes, no_memory_to_decode, no_memory_to_receive, none_left, other_arrives, receive_fails, reply_arrives}
use Rattle.stub_net.proofs.requester.wait.wait.Goals as goal

pub returns-in-Err-Failed : goal.returns-in-Err-Failed
returns-in-Err-Failed g c =
    c.loop-received.invariant _ c.receive_until.new.self c.loop-received.dropped (receive_fails _ _ _ _ (omega arith) (rw c.in-Err-Failed.field-0-is at c.in-Err-Failed.ensures))

pub returns-in-Err-Memory : goal.returns-in-Err-Memory
returns-in-Err-Memory g c =
    c.loop-received.invariant _ c.receive_until.new.self c.loop-received.dropped (no_memory_to_receive _ _ _ _ (omega arith) (rw c.in-Err-Memory.field-0-is at c.in-Err-Memory.ensures))

pub returns-in-Ok-None : goal.returns-in-Ok-None
returns-in-Ok-None g c =
    c.loop-received.invariant _ c.receive_until.new.self c.loop-received.dropped (deadline_passes _ _ _ _ (omega arith) (rw c.in-Ok-None.field-0-is at c.in-Ok-None.ensures))

pub returns-in-Err : goal.returns-in-Err
returns-in-Err g c =
    c.loop-received.invariant _ c.receive_until.new.self c.loop-received.dropped (no_memory_to_decode _ _ _ c.in-Ok-Some.bytes.items _ (omega arith) (rw c.in-Ok-Some.field-0-is at c.in-Ok-Some.ensures) c.in-Err.ensures.headed)

pub returns-in-Ok-Some-reply_to : goal.returns-in-Ok-Some-reply_to
returns-in-Ok-Some-reply_to g c =
    c.loop-received.invariant _ c.receive_until.new.self c.loop-received.dropped (reply_arrives _ _ _ c.in-Ok-Some.bytes.items c.in-Ok-Some-reply_to.response _ (omega arith) (rw c.in-Ok-Some.field-0-is at c.in-Ok-Some.ensures) (rw c.in-Ok-Some-reply_to.field-0-is at c.in-Ok-Some-reply_to.ensures.found))

pub loop-received-preserved : goal.loop-received-preserved
loop-received-preserved g c = λ outcome new total rest.
    let same : 2 ^ 64 - 1 - (c.loop-received._received + 1) ≡ 2 ^ 64 - 1 - c.loop-received._received - 1 = omega arith in
    c.loop-received.invariant outcome new total
    (other_arrives _ _ _ c.in-Ok-Some.bytes.items c.receive_until.new.self outcome new total (omega arith) (rw c.in-Ok-Some.field-0-is at c.in-Ok-Some.ensures) (rw c.in-Ok-None-reply_to.field-0-is at c.in-Ok-None-reply_to.ensures.found)
    (rw same at (rw c.saturating_add.ensures at rest)))

pub returns : goal.returns
returns g c =
    c.loop-received.invariant _ c.loop-received.network c.loop-received.dropped (none_left _ _ _ (omega arith))
