use Rattle.std.proofs.Common.{[], refl, subst, take}
use Rattle.dns_sockets.specs.World.{Received, Unreceived, receive_event}
use Rattle.dns_sockets.specs.declared.world.Receipt.{Receipt}
use Rattle.dns_sockets.proofs.DeliveryLaws.{received}
use Rattle.dns_sockets.proofs.datagrams.DatagramSocket.receive.Goals as goal

pub returns-in_err-gather-in-Datagram : goal.returns-in_err-gather-in-Datagram
returns-in_err-gather-in-Datagram g c =
    received c.args.index g.W.World.performs g.H.Handler.steps c.args.world.now c.receive.new.self c.gather.new.world c.args.handler.now c.gather.new.handler c.args.gathered.now.items c.gather.new.gathered.items
    (Received c.args.index (take c.in-Datagram.len c.receive.new.buffer) c.in-Datagram.peer) refl
    (subst (λ (r : Receipt). g.W.World.performs c.args.world.now (receive_event c.args.index r c.receive.new.buffer) c.receive.new.self) c.in-Datagram.is c.receive.ensures.performs)
    c.gather.ensures

pub returns-in_ok-gather-in-Datagram : goal.returns-in_ok-gather-in-Datagram
returns-in_ok-gather-in-Datagram g c =
    received c.args.index g.W.World.performs g.H.Handler.steps c.args.world.now c.receive.new.self c.gather.new.world c.args.handler.now c.gather.new.handler c.args.gathered.now.items c.gather.new.gathered.items
    (Received c.args.index (take c.in-Datagram.len c.receive.new.buffer) c.in-Datagram.peer) refl
    (subst (λ (r : Receipt). g.W.World.performs c.args.world.now (receive_event c.args.index r c.receive.new.buffer) c.receive.new.self) c.in-Datagram.is c.receive.ensures.performs)
    c.gather.ensures

pub returns-in-Nothing : goal.returns-in-Nothing
returns-in-Nothing g c =
    received c.args.index g.W.World.performs g.H.Handler.steps c.args.world.now c.receive.new.self c.receive.new.self c.args.handler.now c.args.handler.now c.args.gathered.now.items c.args.gathered.now.items (Unreceived c.args.index) refl
    (subst (λ (r : Receipt). g.W.World.performs c.args.world.now (receive_event c.args.index r c.receive.new.buffer) c.receive.new.self) c.in-Nothing.is c.receive.ensures.performs)
    (record { events = []; calls = []; led = refl; called = refl; holds = (refl, (refl, refl)) })

pub returns-in-Interrupted : goal.returns-in-Interrupted
returns-in-Interrupted g c =
    received c.args.index g.W.World.performs g.H.Handler.steps c.args.world.now c.receive.new.self c.receive.new.self c.args.handler.now c.args.handler.now c.args.gathered.now.items c.args.gathered.now.items (Unreceived c.args.index) refl
    (subst (λ (r : Receipt). g.W.World.performs c.args.world.now (receive_event c.args.index r c.receive.new.buffer) c.receive.new.self) c.in-Interrupted.is c.receive.ensures.performs)
    (record { events = []; calls = []; led = refl; called = refl; holds = (refl, (refl, refl)) })

pub returns-in-Failed : goal.returns-in-Failed
returns-in-Failed g c =
    received c.args.index g.W.World.performs g.H.Handler.steps c.args.world.now c.receive.new.self c.receive.new.self c.args.handler.now c.args.handler.now c.args.gathered.now.items c.args.gathered.now.items (Unreceived c.args.index) refl
    (subst (λ (r : Receipt). g.W.World.performs c.args.world.now (receive_event c.args.index r c.receive.new.buffer) c.receive.new.self) c.in-Failed.is c.receive.ensures.performs)
    (record { events = []; calls = []; led = refl; called = refl; holds = (refl, (refl, refl)) })
