use Rattle.std.proofs.Common.{◌++◌, ◌∷◌, [], arith, subst, Bool}
use Rattle.dns_sockets.specs.World.{Sent}
use Rattle.dns_sockets.proofs.NoticeLaws.{tries_end, tries_more, tries_whole}
use Rattle.dns_sockets.proofs.TraceLaws.{led_more}
use Rattle.dns_sockets.proofs.notices.send.Goals as goal

pub returns-then-send : goal.returns-then-send
returns-then-send g c =
    let before = c.loop-socket.invariant in
    let event = λ (b : Bool). Sent c.loop-socket.socket c.as_slice.result.now c.args.notice.now.peer b in
    record {
      events = before.0 ++ event _ ∷ [];
      led = led_more g.W.World.performs c.args.world.now c.loop-socket.world c.send.new.self before.0 (event _) before.1.0
          (subst (λ (b : Bool). g.W.World.performs c.loop-socket.world (event b) c.send.new.self) c.if-send.true c.send.ensures);
      holds = tries_end c.loop-socket.socket c.args.sockets c.args.notice.now.bytes.items c.as_slice.result.now c.args.notice.now.peer before.0 c.loop-socket-test.true c.as_slice.ensures.value before.1.1;
    }

pub loop-socket-preserved : goal.loop-socket-preserved
loop-socket-preserved g c =
    let before = c.loop-socket.invariant in
    let event = λ (b : Bool). Sent c.loop-socket.socket c.as_slice.result.now c.args.notice.now.peer b in (
      before.0 ++ event _ ∷ [],
      (
        led_more g.W.World.performs c.args.world.now c.loop-socket.world c.send.new.self before.0 (event _) before.1.0
            (subst (λ (b : Bool). g.W.World.performs c.loop-socket.world (event b) c.send.new.self) c.if-send.false c.send.ensures),
        tries_more c.loop-socket.socket c.args.sockets c.args.notice.now.bytes.items c.as_slice.result.now c.args.notice.now.peer before.0 c.loop-socket-test.true c.as_slice.ensures.value before.1.1,
      ),
    )

pub returns : goal.returns
returns g c =
    let before = c.loop-socket.invariant in
    record {
      events = before.0;
      led = before.1.0;
      holds = tries_whole c.loop-socket.socket c.args.sockets c.args.notice.now.bytes.items c.args.notice.now.peer before.0 (omega (arith, c.loop-socket-test.false)) before.1.1;
    }
