use Rattle.std.proofs.Common.{List, [], subst, sym}
use Rattle.dns_sockets.specs.Datagrams.{IsTurn}
use Rattle.dns_sockets.specs.Trace.{Traces}
use Rattle.dns_sockets.specs.declared.datagrams.Datagram.{Datagram}
use Rattle.dns_sockets.proofs.DeliveryLaws.{turn_handled, turn_received, turns_append}
use Rattle.dns_sockets.proofs.datagrams.DatagramSocket.step.Goals as goal

pub returns-in_err-handled : goal.returns-in_err-handled
returns-in_err-handled g c =
    let performs = g.W.World.performs in
    let steps = g.H.Handler.steps in
    let gathered = c.receive.new.gathered.items in
    subst (λ (left : List Datagram). Traces performs steps c.args.world.now c.args.handler.now c.handle_all-handled.new.world c.handle_all-handled.new.handler (IsTurn c.args.index c.args.gathered.now.items c.args.waiting.now left c.handle_all-handled.new.waiting))
    (sym c.clear.ensures.items)
    (turns_append c.args.index performs steps c.args.world.now c.receive.new.world c.handle_all-handled.new.world c.args.handler.now c.receive.new.handler c.handle_all-handled.new.handler
    c.args.gathered.now.items gathered [] c.args.waiting.now c.args.waiting.now c.handle_all-handled.new.waiting
    (turn_received c.args.index performs steps c.args.world.now c.receive.new.world c.args.handler.now c.receive.new.handler c.args.gathered.now.items gathered c.args.waiting.now c.receive.ensures)
    (turn_handled c.args.index performs steps c.receive.new.world c.handle_all-handled.new.world c.receive.new.handler c.handle_all-handled.new.handler gathered c.as_slice-then-is_complete.result.now c.args.waiting.now c.handle_all-handled.new.waiting
    c.as_slice-then-is_complete.ensures.value c.handle_all-handled.ensures))

pub returns-in_ok-handled : goal.returns-in_ok-handled
returns-in_ok-handled g c =
    let performs = g.W.World.performs in
    let steps = g.H.Handler.steps in
    let gathered = c.receive.new.gathered.items in
    subst (λ (left : List Datagram). Traces performs steps c.args.world.now c.args.handler.now c.handle_all-handled.new.world c.handle_all-handled.new.handler (IsTurn c.args.index c.args.gathered.now.items c.args.waiting.now left c.handle_all-handled.new.waiting))
    (sym c.clear.ensures.items)
    (turns_append c.args.index performs steps c.args.world.now c.receive.new.world c.handle_all-handled.new.world c.args.handler.now c.receive.new.handler c.handle_all-handled.new.handler
    c.args.gathered.now.items gathered [] c.args.waiting.now c.args.waiting.now c.handle_all-handled.new.waiting
    (turn_received c.args.index performs steps c.args.world.now c.receive.new.world c.args.handler.now c.receive.new.handler c.args.gathered.now.items gathered c.args.waiting.now c.receive.ensures)
    (turn_handled c.args.index performs steps c.receive.new.world c.handle_all-handled.new.world c.receive.new.handler c.handle_all-handled.new.handler gathered c.as_slice-then-is_complete.result.now c.args.waiting.now c.handle_all-handled.new.waiting
    c.as_slice-then-is_complete.ensures.value c.handle_all-handled.ensures))

pub returns-in_err-is_received : goal.returns-in_err-is_received
returns-in_err-is_received g c =
    turn_received c.args.index g.W.World.performs g.H.Handler.steps c.args.world.now c.receive.new.world c.args.handler.now c.receive.new.handler c.args.gathered.now.items c.receive.new.gathered.items
    c.args.waiting.now c.receive.ensures

pub returns-else-is_received : goal.returns-else-is_received
returns-else-is_received g c =
    turn_received c.args.index g.W.World.performs g.H.Handler.steps c.args.world.now c.receive.new.world c.args.handler.now c.receive.new.handler c.args.gathered.now.items c.receive.new.gathered.items
    c.args.waiting.now c.receive.ensures
