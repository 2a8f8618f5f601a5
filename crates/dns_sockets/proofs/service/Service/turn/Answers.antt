use Rattle.std.proofs.Common.{◌≡◌, [], false, true, refl}
use Rattle.dns_sockets.proofs.ServedLaws.{serves_kept, serves_quiet, serves_then, serves_waiting}
use Rattle.dns_sockets.specs.Served.{IsServed}
use Rattle.dns_sockets.specs.Service.{known_of}
use Rattle.dns_sockets.specs.Trace.{IsQuiet}
use Rattle.std.specs.List.{AllByRecursion}
use Rattle.dns_sockets.proofs.ShareLaws.{turn_over, turn_starts, turn_waits, waits_then}
use Rattle.dns_sockets.proofs.service.Service.turn.Goals as goal

pub returns-in_err-wait-clause-served : goal.returns-in_err-wait-clause-served
returns-in_err-wait-clause-served g c =
    serves_quiet g.W.World.performs g.H.Handler.steps c.args.world.now c.wait.new.world c.args.handler.now c.args.self.now.waiting.items c.args.self.now.streams.slots.items c.wait.ensures.quiet

pub returns-then-note_all-clause-served : goal.returns-then-note_all-clause-served
returns-then-note_all-clause-served g c =
    let performs = g.W.World.performs in
    let steps = g.H.Handler.steps in
    let start = c.args.self.now.waiting in
    let streams = c.args.self.now.streams.slots.items in
    let noted = c.note_all.new.self in
    let at_notes = serves_waiting performs steps c.args.world.now c.note_all.new.world c.args.handler.now c.args.handler.now start.items start noted.waiting streams noted.streams.slots.items
    (serves_kept performs steps c.args.world.now c.note_all.new.world c.args.handler.now c.args.handler.now start.items start.items streams streams noted.streams.slots.items
    (serves_then performs steps c.args.world.now c.wait.new.world c.note_all.new.world c.args.handler.now c.args.handler.now c.args.handler.now start.items start.items start.items streams streams streams
    (serves_quiet performs steps c.args.world.now c.wait.new.world c.args.handler.now start.items streams c.wait.ensures.quiet)
    (serves_quiet performs steps c.wait.new.world c.note_all.new.world c.args.handler.now start.items streams c.note_all.ensures.world))
    c.note_all.ensures.streams) c.note_all.ensures.waiting in
    at_notes

pub returns-in_err-serve-clause-served : goal.returns-in_err-serve-clause-served
returns-in_err-serve-clause-served g c =
    let performs = g.W.World.performs in
    let steps = g.H.Handler.steps in
    let start = c.args.self.now.waiting in
    let streams = c.args.self.now.streams.slots.items in
    let noted = c.note_all.new.self in
    let at_notes = serves_waiting performs steps c.args.world.now c.note_all.new.world c.args.handler.now c.args.handler.now start.items start noted.waiting streams noted.streams.slots.items
    (serves_kept performs steps c.args.world.now c.note_all.new.world c.args.handler.now c.args.handler.now start.items start.items streams streams noted.streams.slots.items
    (serves_then performs steps c.args.world.now c.wait.new.world c.note_all.new.world c.args.handler.now c.args.handler.now c.args.handler.now start.items start.items start.items streams streams streams
    (serves_quiet performs steps c.args.world.now c.wait.new.world c.args.handler.now start.items streams c.wait.ensures.quiet)
    (serves_quiet performs steps c.wait.new.world c.note_all.new.world c.args.handler.now start.items streams c.note_all.ensures.world))
    c.note_all.ensures.streams) c.note_all.ensures.waiting in
    serves_then performs steps c.args.world.now c.note_all.new.world c.serve.new.world c.args.handler.now c.args.handler.now c.serve.new.handler start.items noted.waiting.items c.serve.new.self.waiting.items
    streams noted.streams.slots.items c.serve.new.self.streams.slots.items at_notes c.serve.ensures

pub returns-clause-served : goal.returns-clause-served
returns-clause-served g c =
    let performs = g.W.World.performs in
    let steps = g.H.Handler.steps in
    let start = c.args.self.now.waiting in
    let streams = c.args.self.now.streams.slots.items in
    let noted = c.note_all.new.self in
    let at_notes = serves_waiting performs steps c.args.world.now c.note_all.new.world c.args.handler.now c.args.handler.now start.items start noted.waiting streams noted.streams.slots.items
    (serves_kept performs steps c.args.world.now c.note_all.new.world c.args.handler.now c.args.handler.now start.items start.items streams streams noted.streams.slots.items
    (serves_then performs steps c.args.world.now c.wait.new.world c.note_all.new.world c.args.handler.now c.args.handler.now c.args.handler.now start.items start.items start.items streams streams streams
    (serves_quiet performs steps c.args.world.now c.wait.new.world c.args.handler.now start.items streams c.wait.ensures.quiet)
    (serves_quiet performs steps c.wait.new.world c.note_all.new.world c.args.handler.now start.items streams c.note_all.ensures.world))
    c.note_all.ensures.streams) c.note_all.ensures.waiting in
    serves_then performs steps c.args.world.now c.note_all.new.world c.serve.new.world c.args.handler.now c.args.handler.now c.serve.new.handler start.items noted.waiting.items c.serve.new.self.waiting.items
    streams noted.streams.slots.items c.serve.new.self.streams.slots.items at_notes c.serve.ensures

pub returns-then-note_all-clause-over : goal.returns-then-note_all-clause-over
returns-then-note_all-clause-over g c = λ is.
    turn_over g.W.World.performs g.H.Handler.steps (AllByRecursion IsQuiet) c.note_all.result (known_of c.args.self.now) (known_of c.note_all.new.self) c.args.world.now c.wait.new.world c.note_all.new.world c.args.handler.now
    c.wait.ensures.quiet c.note_all.ensures.notes c.if-note_all.true

pub returns-then-note_all-clause-waits : goal.returns-then-note_all-clause-waits
returns-then-note_all-clause-waits g c =
    turn_waits g.W.World.performs g.H.Handler.steps (AllByRecursion IsQuiet) c.args.world.now c.wait.new.world c.note_all.new.world c.args.handler.now c.in_ok-wait.ensures.waited c.note_all.ensures.world

pub returns-clause-waits : goal.returns-clause-waits
returns-clause-waits g c =
    waits_then g.W.World.performs g.H.Handler.steps 1 (IsServed c.note_all.new.self.waiting.items c.note_all.new.self.streams.slots.items c.serve.new.self.waiting.items c.serve.new.self.streams.slots.items)
    c.args.world.now c.note_all.new.world c.serve.new.world c.args.handler.now c.args.handler.now c.serve.new.handler
    (turn_waits g.W.World.performs g.H.Handler.steps (AllByRecursion IsQuiet) c.args.world.now c.wait.new.world c.note_all.new.world c.args.handler.now c.in_ok-wait.ensures.waited c.note_all.ensures.world) c.serve.ensures

pub returns-then-note_all-clause-starts : goal.returns-then-note_all-clause-starts
returns-then-note_all-clause-starts g c =
    turn_starts g.W.World.performs g.H.Handler.steps (λ acts. acts ≡ []) c.note_all.result true (known_of c.args.self.now) (known_of c.note_all.new.self) c.args.world.now c.wait.new.world c.note_all.new.world c.note_all.new.world
    c.args.handler.now c.args.handler.now c.in_ok-wait.ensures.waited c.note_all.ensures.notes c.if-note_all.true (record { acts = []; leads = (refl, refl); holds = refl }) (λ is. refl)

pub returns-clause-starts : goal.returns-clause-starts
returns-clause-starts g c =
    turn_starts g.W.World.performs g.H.Handler.steps (IsServed c.note_all.new.self.waiting.items c.note_all.new.self.streams.slots.items c.serve.new.self.waiting.items c.serve.new.self.streams.slots.items)
    c.note_all.result false (known_of c.args.self.now) (known_of c.note_all.new.self) c.args.world.now c.wait.new.world c.note_all.new.world c.serve.new.world
    c.args.handler.now c.serve.new.handler c.in_ok-wait.ensures.waited c.note_all.ensures.notes c.if-note_all.false c.serve.ensures (λ is. absurd (cc))
