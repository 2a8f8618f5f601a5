use Rattle.dns_sockets.proofs.ServedLaws.{serves_nothing, serves_then}
use Rattle.dns_sockets.proofs.service.Service.serve_datagrams.Goals as goal

pub loop-index-init : goal.loop-index-init
loop-index-init g c = serves_nothing g.W.World.performs g.H.Handler.steps c.args.world.now c.args.handler.now c.args.self.now.waiting.items c.args.self.now.streams.slots.items

pub loop-index-preserved : goal.loop-index-preserved
loop-index-preserved g c =
    serves_then g.W.World.performs g.H.Handler.steps c.args.world.now c.loop-index.world c.serve_socket.new.world c.args.handler.now c.loop-index.handler c.serve_socket.new.handler
    c.args.self.now.waiting.items c.loop-index.self.waiting.items c.serve_socket.new.self.waiting.items
    c.args.self.now.streams.slots.items c.loop-index.self.streams.slots.items c.serve_socket.new.self.streams.slots.items c.loop-index.invariant c.serve_socket.ensures

pub returns-in_err-serve_socket : goal.returns-in_err-serve_socket
returns-in_err-serve_socket g c =
    serves_then g.W.World.performs g.H.Handler.steps c.args.world.now c.loop-index.world c.serve_socket.new.world c.args.handler.now c.loop-index.handler c.serve_socket.new.handler
    c.args.self.now.waiting.items c.loop-index.self.waiting.items c.serve_socket.new.self.waiting.items
    c.args.self.now.streams.slots.items c.loop-index.self.streams.slots.items c.serve_socket.new.self.streams.slots.items c.loop-index.invariant c.serve_socket.ensures
