use Rattle.dns_sockets.specs.Trace.{IsQuiet}
use Rattle.dns_sockets.specs.World.{clock_event}
use Rattle.dns_sockets.proofs.ServedLaws.{clock_is_quiet, serves_due, serves_events, serves_notices, serves_quiet, serves_streams, serves_then, serves_waiting}
use Rattle.dns_sockets.proofs.TraceLaws.{performs_one}
use Rattle.dns_sockets.proofs.service.Service.serve.Goals as goal

pub returns-in_err-now : goal.returns-in_err-now
returns-in_err-now g c =
    serves_quiet g.W.World.performs g.H.Handler.steps c.args.world.now c.now.new.self c.args.handler.now c.args.self.now.waiting.items c.args.self.now.streams.slots.items
    (performs_one g.W.World.performs IsQuiet c.args.world.now c.now.new.self (clock_event c.now.result) c.now.ensures (clock_is_quiet c.now.result))

pub returns-in_err-serve_datagrams : goal.returns-in_err-serve_datagrams
returns-in_err-serve_datagrams g c =
    let performs = g.W.World.performs in
    let steps = g.H.Handler.steps in
    let start = c.args.self.now.waiting in
    let streams = c.args.self.now.streams.slots.items in
    let datagrams = c.serve_datagrams.new.self in
    let at_clock = serves_quiet performs steps c.args.world.now c.now.new.self c.args.handler.now start.items streams (performs_one performs IsQuiet c.args.world.now c.now.new.self (clock_event c.now.result) c.now.ensures (clock_is_quiet c.now.result)) in
    serves_then performs steps c.args.world.now c.now.new.self c.serve_datagrams.new.world c.args.handler.now c.args.handler.now c.serve_datagrams.new.handler start.items start.items datagrams.waiting.items
    streams streams datagrams.streams.slots.items at_clock c.serve_datagrams.ensures

pub returns-in_err-go_on : goal.returns-in_err-go_on
returns-in_err-go_on g c =
    let performs = g.W.World.performs in
    let steps = g.H.Handler.steps in
    let start = c.args.self.now.waiting in
    let streams = c.args.self.now.streams.slots.items in
    let datagrams = c.serve_datagrams.new.self in
    let accepted = c.accept.new.self in
    let at_clock = serves_quiet performs steps c.args.world.now c.now.new.self c.args.handler.now start.items streams (performs_one performs IsQuiet c.args.world.now c.now.new.self (clock_event c.now.result) c.now.ensures (clock_is_quiet c.now.result)) in
    let at_datagrams = serves_then performs steps c.args.world.now c.now.new.self c.serve_datagrams.new.world c.args.handler.now c.args.handler.now c.serve_datagrams.new.handler start.items start.items datagrams.waiting.items
    streams streams datagrams.streams.slots.items at_clock c.serve_datagrams.ensures in
    let at_listeners = serves_waiting performs steps c.args.world.now c.accept.new.world c.args.handler.now c.serve_datagrams.new.handler start.items datagrams.waiting accepted.waiting streams accepted.streams.slots.items
    (serves_then performs steps c.args.world.now c.serve_datagrams.new.world c.accept.new.world c.args.handler.now c.serve_datagrams.new.handler c.serve_datagrams.new.handler start.items datagrams.waiting.items datagrams.waiting.items
    streams datagrams.streams.slots.items accepted.streams.slots.items at_datagrams
    (serves_events performs steps c.serve_datagrams.new.world c.accept.new.world c.serve_datagrams.new.handler datagrams.waiting.items datagrams.streams.slots.items accepted.streams.slots.items c.accept.ensures.world))
    c.accept.ensures.waiting in
    let at_streams = serves_then performs steps c.args.world.now c.accept.new.world c.go_on.new.world c.args.handler.now c.serve_datagrams.new.handler c.go_on.new.handler start.items accepted.waiting.items accepted.waiting.items
    streams accepted.streams.slots.items c.go_on.new.self.slots.items at_listeners
    (serves_streams performs steps c.accept.new.world c.go_on.new.world c.serve_datagrams.new.handler c.go_on.new.handler accepted.waiting.items accepted.streams.slots.items c.go_on.new.self.slots.items c.go_on.ensures.acts) in
    at_streams

pub returns : goal.returns
returns g c =
    let performs = g.W.World.performs in
    let steps = g.H.Handler.steps in
    let start = c.args.self.now.waiting in
    let streams = c.args.self.now.streams.slots.items in
    let datagrams = c.serve_datagrams.new.self in
    let accepted = c.accept.new.self in
    let at_clock = serves_quiet performs steps c.args.world.now c.now.new.self c.args.handler.now start.items streams (performs_one performs IsQuiet c.args.world.now c.now.new.self (clock_event c.now.result) c.now.ensures (clock_is_quiet c.now.result)) in
    let at_datagrams = serves_then performs steps c.args.world.now c.now.new.self c.serve_datagrams.new.world c.args.handler.now c.args.handler.now c.serve_datagrams.new.handler start.items start.items datagrams.waiting.items
    streams streams datagrams.streams.slots.items at_clock c.serve_datagrams.ensures in
    let at_listeners = serves_waiting performs steps c.args.world.now c.accept.new.world c.args.handler.now c.serve_datagrams.new.handler start.items datagrams.waiting accepted.waiting streams accepted.streams.slots.items
    (serves_then performs steps c.args.world.now c.serve_datagrams.new.world c.accept.new.world c.args.handler.now c.serve_datagrams.new.handler c.serve_datagrams.new.handler start.items datagrams.waiting.items datagrams.waiting.items
    streams datagrams.streams.slots.items accepted.streams.slots.items at_datagrams
    (serves_events performs steps c.serve_datagrams.new.world c.accept.new.world c.serve_datagrams.new.handler datagrams.waiting.items datagrams.streams.slots.items accepted.streams.slots.items c.accept.ensures.world))
    c.accept.ensures.waiting in
    let at_streams = serves_then performs steps c.args.world.now c.accept.new.world c.go_on.new.world c.args.handler.now c.serve_datagrams.new.handler c.go_on.new.handler start.items accepted.waiting.items accepted.waiting.items
    streams accepted.streams.slots.items c.go_on.new.self.slots.items at_listeners
    (serves_streams performs steps c.accept.new.world c.go_on.new.world c.serve_datagrams.new.handler c.go_on.new.handler accepted.waiting.items accepted.streams.slots.items c.go_on.new.self.slots.items c.go_on.ensures.acts) in
    let slots = c.go_on.new.self.slots.items in
    let at_due = serves_then performs steps c.args.world.now c.go_on.new.world c.send_due.new.world c.args.handler.now c.go_on.new.handler c.go_on.new.handler start.items accepted.waiting.items c.send_due.new.waiting.items
    streams slots slots at_streams
    (serves_due performs steps c.go_on.new.world c.send_due.new.world c.go_on.new.handler c.in_ok-now.now accepted.waiting c.send_due.new.waiting slots c.send_due.ensures.left c.send_due.ensures.sent) in
    serves_then performs steps c.args.world.now c.send_due.new.world c.send_notices.new.world c.args.handler.now c.go_on.new.handler c.send_notices.new.handler start.items c.send_due.new.waiting.items c.send_due.new.waiting.items
    streams slots slots at_due
    (serves_notices performs steps c.send_due.new.world c.send_notices.new.world c.go_on.new.handler c.send_notices.new.handler c.send_due.new.waiting.items slots 64 _ c.in_ok-now.now c.send_notices.ensures)
