use Rattle.std.proofs.Common.{◌≡◌, ℕ, ◌-◌, ◌+◌, ◌<◌, Ok, Err, Some, None, refl, sym, subst, arith}
use Rattle.std.specs.Option.{option_copied}
use Rattle.stub_link.specs.declared.link.LinkError.TheVariants.{Failed, Memory}
use Rattle.stub_lookup.specs.declared.error.LinkFault.TheVariants as fault
use Rattle.stub_lookup.specs.declared.error.NetError.{NetError}
use Rattle.stub_lookup.specs.declared.error.NetError.TheVariants as net
use Rattle.stub_link.specs.Link.{calls_of, wire}
use Rattle.stub_link.specs.Wait.{Wait, one_more}
use Rattle.stub_link.specs.WireHandle.{FindsReply}
use Rattle.stub_link.proofs.Waiting.{wait-step, wait-end, after-reply, after-other, after-memory}
use Rattle.stub_link.proofs.wire_handle.reply.wait.Goals as goal

pub returns-in-Err-Failed-clause-waits : goal.returns-in-Err-Failed-clause-waits
returns-in-Err-Failed-clause-waits g c =
    let left : 0 < 16 - c.loop-received._received = omega arith in
    c.loop-received.invariant.0 _ c.next_datagram.new.self c.loop-received.dropped
    (wait-step wire (calls_of g.L.Link.sends g.L.Link.receives g.L.Link.streams) c.args.id (option_copied c.args.question) (16 - c.loop-received._received) c.loop-received.link c.loop-received.dropped (Err Failed) c.next_datagram.new.self (Err (net.Link fault.NotReceived)) c.next_datagram.new.self c.loop-received.dropped left
    (rw c.in-Err-Failed.field-0-is at c.in-Err-Failed.ensures.receives) (refl, refl, refl))

pub returns-in-Err-Memory-clause-waits : goal.returns-in-Err-Memory-clause-waits
returns-in-Err-Memory-clause-waits g c =
    let left : 0 < 16 - c.loop-received._received = omega arith in
    c.loop-received.invariant.0 _ c.next_datagram.new.self c.loop-received.dropped
    (wait-step wire (calls_of g.L.Link.sends g.L.Link.receives g.L.Link.streams) c.args.id (option_copied c.args.question) (16 - c.loop-received._received) c.loop-received.link c.loop-received.dropped (Err Memory) c.next_datagram.new.self (Err net.Memory) c.next_datagram.new.self c.loop-received.dropped left
    (rw c.in-Err-Memory.field-0-is at c.in-Err-Memory.ensures.receives) (refl, refl, refl))

pub returns-in-Ok-None-clause-waits : goal.returns-in-Ok-None-clause-waits
returns-in-Ok-None-clause-waits g c =
    let left : 0 < 16 - c.loop-received._received = omega arith in
    c.loop-received.invariant.0 _ c.next_datagram.new.self c.loop-received.dropped
    (wait-step wire (calls_of g.L.Link.sends g.L.Link.receives g.L.Link.streams) c.args.id (option_copied c.args.question) (16 - c.loop-received._received) c.loop-received.link c.loop-received.dropped (Ok None) c.next_datagram.new.self (Err (net.Link fault.Quiet)) c.next_datagram.new.self c.loop-received.dropped left
    (rw c.in-Ok-None.field-0-is at c.in-Ok-None.ensures.receives) (refl, refl, refl))

pub returns-in-Err-clause-waits : goal.returns-in-Err-clause-waits
returns-in-Err-clause-waits g c =
    let left : 0 < 16 - c.loop-received._received = omega arith in
    let i = 16 - c.loop-received._received in
    subst (λ (e : NetError). Wait wire (calls_of g.L.Link.sends g.L.Link.receives g.L.Link.streams) 16 c.args.id (option_copied c.args.question) c.args.link.now c.args.dropped.now (Err e) c.next_datagram.new.self c.loop-received.dropped) (sym c.from.ensures)
    (c.loop-received.invariant.0 _ c.next_datagram.new.self c.loop-received.dropped
    (wait-step wire (calls_of g.L.Link.sends g.L.Link.receives g.L.Link.streams) c.args.id (option_copied c.args.question) i c.loop-received.link c.loop-received.dropped (Ok (Some c.in-Ok-Some.bytes.items)) c.next_datagram.new.self (Err net.Memory) c.next_datagram.new.self c.loop-received.dropped left
    (rw c.in-Ok-Some.field-0-is at c.in-Ok-Some.ensures.receives)
    (after-memory c.args.id (option_copied c.args.question) c.in-Ok-Some.bytes.items c.next_datagram.new.self c.loop-received.dropped (λ more. Wait wire (calls_of g.L.Link.sends g.L.Link.receives g.L.Link.streams) (i - 1) c.args.id (option_copied c.args.question) c.next_datagram.new.self more)
    c.in-Err.ensures.headed)))

pub returns-in-Ok-Some-reply_in-clause-waits : goal.returns-in-Ok-Some-reply_in-clause-waits
returns-in-Ok-Some-reply_in-clause-waits g c =
    let left : 0 < 16 - c.loop-received._received = omega arith in
    let i = 16 - c.loop-received._received in
    let found : FindsReply c.args.id (option_copied c.args.question) c.in-Ok-Some.bytes.items (Some c.in-Ok-Some-reply_in.response) =
    rw c.in-Ok-Some-reply_in.field-0-is at c.in-Ok-Some-reply_in.ensures.found in
    c.loop-received.invariant.0 _ c.next_datagram.new.self c.loop-received.dropped
    (wait-step wire (calls_of g.L.Link.sends g.L.Link.receives g.L.Link.streams) c.args.id (option_copied c.args.question) i c.loop-received.link c.loop-received.dropped (Ok (Some c.in-Ok-Some.bytes.items)) c.next_datagram.new.self (Ok c.in-Ok-Some-reply_in.response) c.next_datagram.new.self c.loop-received.dropped left
    (rw c.in-Ok-Some.field-0-is at c.in-Ok-Some.ensures.receives)
    (after-reply c.args.id (option_copied c.args.question) c.in-Ok-Some.bytes.items c.next_datagram.new.self c.loop-received.dropped (λ more. Wait wire (calls_of g.L.Link.sends g.L.Link.receives g.L.Link.streams) (i - 1) c.args.id (option_copied c.args.question) c.next_datagram.new.self more) c.in-Ok-Some-reply_in.response found))

pub loop-received-preserved : goal.loop-received-preserved
loop-received-preserved g c = (
  λ outcome new total rest.
      let left : 0 < 16 - c.loop-received._received = omega arith in
      let i = 16 - c.loop-received._received in
      let same : 16 - (c.loop-received._received + 1) ≡ i - 1 = omega arith in
      let found : FindsReply c.args.id (option_copied c.args.question) c.in-Ok-Some.bytes.items None =
      rw c.in-Ok-None-reply_in.field-0-is at c.in-Ok-None-reply_in.ensures.found in
      c.loop-received.invariant.0 outcome new total
      (wait-step wire (calls_of g.L.Link.sends g.L.Link.receives g.L.Link.streams) c.args.id (option_copied c.args.question) i c.loop-received.link c.loop-received.dropped (Ok (Some c.in-Ok-Some.bytes.items)) c.next_datagram.new.self outcome new total left
      (rw c.in-Ok-Some.field-0-is at c.in-Ok-Some.ensures.receives)
      (after-other c.args.id (option_copied c.args.question) c.in-Ok-Some.bytes.items c.next_datagram.new.self c.loop-received.dropped (λ more. Wait wire (calls_of g.L.Link.sends g.L.Link.receives g.L.Link.streams) (i - 1) c.args.id (option_copied c.args.question) c.next_datagram.new.self more) outcome new total found
      (subst (λ (n : ℕ). Wait wire (calls_of g.L.Link.sends g.L.Link.receives g.L.Link.streams) n c.args.id (option_copied c.args.question) c.next_datagram.new.self (one_more c.loop-received.dropped) outcome new total) same (rw c.saturating_add.ensures at rest)))),
  omega (arith, c.loop-received.invariant.1, c.next_datagram.ensures.kept),
)

pub returns-clause-waits : goal.returns-clause-waits
returns-clause-waits g c =
    c.loop-received.invariant.0 _ c.loop-received.link c.loop-received.dropped
    (wait-end wire (calls_of g.L.Link.sends g.L.Link.receives g.L.Link.streams) c.args.id (option_copied c.args.question) (16 - c.loop-received._received) c.loop-received.link c.loop-received.dropped (omega arith))
