use Rattle.std.proofs.Common.{◌++◌, ◌∷◌, [], refl}
use Rattle.dns_sockets.specs.World as events
use Rattle.dns_sockets.proofs.TraceLaws.{copies_more, led_more}
use Rattle.dns_sockets.proofs.datagrams.send.Goals as goal

pub loop-copy-preserved : goal.loop-copy-preserved
loop-copy-preserved g c =
    let before = c.loop-copy.invariant in
    record {
      events = before.events ++ events.Sent c.args.reply.now.socket c.as_slice.result.now c.args.reply.now.peer c.send-sent.result ∷ [];
      led = led_more g.W.World.performs c.args.world.now c.loop-copy.world c.send-sent.new.self before.events _ before.led c.send-sent.ensures;
      holds = copies_more c.args.reply.now.socket c.loop-copy._copy c.args.reply.now.bytes.items c.args.reply.now.peer before.events _ before.holds (refl, (c.as_slice.ensures.value, refl));
    }
