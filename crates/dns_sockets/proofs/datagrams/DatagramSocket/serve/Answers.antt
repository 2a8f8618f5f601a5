use Rattle.std.proofs.Common.{List, [], subst}
use Rattle.std.specs.Prelude.{is_err}
use Rattle.dns_sockets.specs.Datagrams.{IsTurn}
use Rattle.dns_sockets.specs.Trace.{Traces}
use Rattle.dns_sockets.specs.declared.datagrams.Datagram.{Datagram}
use Rattle.dns_sockets.proofs.DeliveryLaws.{fails_turn, ends_turn, turn_handled, turns_append}
use Rattle.dns_sockets.proofs.datagrams.DatagramSocket.serve.Goals as goal

pub returns-in_err-receive_all : goal.returns-in_err-receive_all
returns-in_err-receive_all g c =
    let performs = g.W.World.performs in
    let steps = g.H.Handler.steps in
    fails_turn c.args.index performs steps (is_err c.from_residual.result) c.args.world.now c.receive_all.new.world c.args.handler.now c.receive_all.new.handler c.args.waiting.now c.receive_all.new.waiting c.receive_all.new.gathered.items
    c.from_residual.ensures.0
    (subst (λ (ds : List Datagram). Traces performs steps c.args.world.now c.args.handler.now c.receive_all.new.world c.receive_all.new.handler (IsTurn c.args.index ds c.args.waiting.now c.receive_all.new.gathered.items c.receive_all.new.waiting))
    c.new-gathered.ensures.items c.receive_all.ensures)

pub returns : goal.returns
returns g c =
    let performs = g.W.World.performs in
    let steps = g.H.Handler.steps in
    ends_turn c.args.index performs steps (is_err c.handle_all.result) c.args.world.now c.handle_all.new.world c.args.handler.now c.handle_all.new.handler c.args.waiting.now c.handle_all.new.waiting
    (turns_append c.args.index performs steps c.args.world.now c.receive_all.new.world c.handle_all.new.world c.args.handler.now c.receive_all.new.handler c.handle_all.new.handler
    [] c.receive_all.new.gathered.items [] c.args.waiting.now c.receive_all.new.waiting c.handle_all.new.waiting
    (subst (λ (ds : List Datagram). Traces performs steps c.args.world.now c.args.handler.now c.receive_all.new.world c.receive_all.new.handler (IsTurn c.args.index ds c.args.waiting.now c.receive_all.new.gathered.items c.receive_all.new.waiting))
    c.new-gathered.ensures.items c.receive_all.ensures)
    (turn_handled c.args.index performs steps c.receive_all.new.world c.handle_all.new.world c.receive_all.new.handler c.handle_all.new.handler c.receive_all.new.gathered.items c.as_slice.result.now c.receive_all.new.waiting c.handle_all.new.waiting
    c.as_slice.ensures.value c.handle_all.ensures))
