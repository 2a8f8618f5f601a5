use Rattle.std.proofs.Common.{◌≤◌, arith}
use Rattle.dns_sockets.specs.Trace.{waits_in}
use Rattle.dns_sockets.proofs.ServedLaws.{serves_nothing, serves_then}
use Rattle.dns_sockets.proofs.ShareLaws.{is_over_at, is_over_past, waits_more, waits_none}
use Rattle.dns_sockets.proofs.service.Service.run.Goals as goal

pub loop-turn-init : goal.loop-turn-init
loop-turn-init g c = record {
  served = serves_nothing g.W.World.performs g.H.Handler.steps c.args.world.now c.args.handler.now c.args.self.now.waiting.items c.args.self.now.streams.slots.items;
  waits = waits_none g.W.World.performs g.H.Handler.steps c.args.world.now c.args.handler.now;
}

pub loop-turn-preserved : goal.loop-turn-preserved
loop-turn-preserved g c = record {
  served = serves_then g.W.World.performs g.H.Handler.steps c.args.world.now c.loop-turn.world c.turn.new.world c.args.handler.now c.loop-turn.handler c.turn.new.handler
      c.args.self.now.waiting.items c.loop-turn.self.waiting.items c.turn.new.self.waiting.items
      c.args.self.now.streams.slots.items c.loop-turn.self.streams.slots.items c.turn.new.self.streams.slots.items c.loop-turn.invariant.served c.turn.ensures.served;
  waits = waits_more g.W.World.performs g.H.Handler.steps c.loop-turn._turn c.args.world.now c.loop-turn.world c.turn.new.world c.args.handler.now c.loop-turn.handler c.turn.new.handler c.loop-turn.invariant.waits c.in_ok-turn.ensures.waits;
}

pub returns-in_err-turn-clause-served : goal.returns-in_err-turn-clause-served
returns-in_err-turn-clause-served g c =
    serves_then g.W.World.performs g.H.Handler.steps c.args.world.now c.loop-turn.world c.turn.new.world c.args.handler.now c.loop-turn.handler c.turn.new.handler
    c.args.self.now.waiting.items c.loop-turn.self.waiting.items c.turn.new.self.waiting.items
    c.args.self.now.streams.slots.items c.loop-turn.self.streams.slots.items c.turn.new.self.streams.slots.items c.loop-turn.invariant.served c.turn.ensures.served

pub returns-then-branch-clause-served : goal.returns-then-branch-clause-served
returns-then-branch-clause-served g c =
    serves_then g.W.World.performs g.H.Handler.steps c.args.world.now c.loop-turn.world c.turn.new.world c.args.handler.now c.loop-turn.handler c.turn.new.handler
    c.args.self.now.waiting.items c.loop-turn.self.waiting.items c.turn.new.self.waiting.items
    c.args.self.now.streams.slots.items c.loop-turn.self.streams.slots.items c.turn.new.self.streams.slots.items c.loop-turn.invariant.served c.turn.ensures.served

pub returns-then-branch-clause-over : goal.returns-then-branch-clause-over
returns-then-branch-clause-over g c =
    is_over_at g.W.World.performs g.H.Handler.steps (λ acts. c.loop-turn._turn ≤ waits_in acts) c.args.world.now c.loop-turn.world c.turn.new.world c.args.handler.now c.loop-turn.handler c.turn.new.handler c.loop-turn.invariant.waits (c.turn.ensures.over (cc))

pub returns-clause-over : goal.returns-clause-over
returns-clause-over g c = is_over_past g.W.World.performs g.H.Handler.steps c.loop-turn._turn c.args.world.now c.loop-turn.world c.args.handler.now c.loop-turn.handler (omega arith) c.loop-turn.invariant.waits
