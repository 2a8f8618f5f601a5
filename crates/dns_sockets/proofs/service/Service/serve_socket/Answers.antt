use Rattle.std.specs.Prelude.{is_err}
use Rattle.dns_sockets.proofs.ServedLaws.{serves_nothing, serves_turn}
use Rattle.dns_sockets.proofs.service.Service.serve_socket.Goals as goal

pub returns : goal.returns
returns g c =
    serves_turn g.W.World.performs g.H.Handler.steps (is_err c.serve.result) c.args.world.now c.serve.new.world c.args.handler.now c.serve.new.handler c.args.index c.args.self.now.waiting c.serve.new.waiting c.args.self.now.streams.slots.items
    c.serve.ensures

pub returns-in_default : goal.returns-in_default
returns-in_default g c = serves_nothing g.W.World.performs g.H.Handler.steps c.args.world.now c.args.handler.now c.args.self.now.waiting.items c.args.self.now.streams.slots.items
