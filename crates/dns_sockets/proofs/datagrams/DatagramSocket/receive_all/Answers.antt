use Rattle.dns_sockets.proofs.DeliveryLaws.{turns_append}
use Rattle.dns_sockets.proofs.datagrams.DatagramSocket.receive_all.Goals as goal

pub loop-datagram-preserved : goal.loop-datagram-preserved
loop-datagram-preserved g c =
    turns_append c.args.index g.W.World.performs g.H.Handler.steps c.args.world.now c.loop-datagram.world c.step.new.world c.args.handler.now c.loop-datagram.handler c.step.new.handler
    c.args.gathered.now.items c.loop-datagram.gathered.items c.step.new.gathered.items c.args.waiting.now c.loop-datagram.waiting c.step.new.waiting c.loop-datagram.invariant c.step.ensures

pub returns-then-not-branch : goal.returns-then-not-branch
returns-then-not-branch g c =
    turns_append c.args.index g.W.World.performs g.H.Handler.steps c.args.world.now c.loop-datagram.world c.step.new.world c.args.handler.now c.loop-datagram.handler c.step.new.handler
    c.args.gathered.now.items c.loop-datagram.gathered.items c.step.new.gathered.items c.args.waiting.now c.loop-datagram.waiting c.step.new.waiting c.loop-datagram.invariant c.step.ensures

pub returns-in_err-step : goal.returns-in_err-step
returns-in_err-step g c =
    turns_append c.args.index g.W.World.performs g.H.Handler.steps c.args.world.now c.loop-datagram.world c.step.new.world c.args.handler.now c.loop-datagram.handler c.step.new.handler
    c.args.gathered.now.items c.loop-datagram.gathered.items c.step.new.gathered.items c.args.waiting.now c.loop-datagram.waiting c.step.new.waiting c.loop-datagram.invariant c.step.ensures
