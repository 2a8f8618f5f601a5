use Rattle.std.proofs.Common.{Bool, [], arith, refl, subst}
use Rattle.dns_sockets.specs.Events.{Performs}
use Rattle.dns_sockets.specs.Listener.{IsAttempt}
use Rattle.dns_sockets.specs.Listener.Accepts.{is_early}
use Rattle.dns_sockets.proofs.ConnectionLaws.{heard_none, heard_then}
use Rattle.dns_sockets.proofs.ListenerLaws.{all_tried, last_tried, none_tried, one_tried, turns_both, turns_kept}
use Rattle.dns_sockets.proofs.listener.Listener.accept.Goals as goal

pub loop-connection-init : goal.loop-connection-init
loop-connection-init g c = record {
  followed = heard_none g.W.World.performs c.args.streams.now.slots.items c.args.world.now;
  tried = none_tried g.W.World.performs c.args.index c.args.now c.args.self.now c.args.streams.now c.args.world.now;
  turns = turns_kept c.args.streams.now;
}

pub loop-connection-preserved : goal.loop-connection-preserved
loop-connection-preserved g c = record {
  followed = heard_then g.W.World.performs c.args.streams.now.slots.items c.loop-connection.streams.slots.items c.accept_one.new.streams.slots.items c.args.world.now c.loop-connection.world c.accept_one.new.world
      c.loop-connection.invariant.followed c.accept_one.ensures.followed;
  tried = one_tried g.W.World.performs c.args.index c.args.now c.args.self.now c.args.streams.now c.args.world.now c.loop-connection.world c.accept_one.new.world c.loop-connection._connection
      c.loop-connection.self c.accept_one.new.self c.loop-connection.streams c.accept_one.new.streams c.loop-connection.invariant.tried
      (subst (λ (follows : Bool). Performs g.W.World.performs c.loop-connection.world c.accept_one.new.world (λ es. IsAttempt c.args.index c.args.now c.loop-connection.self c.loop-connection.streams es c.accept_one.new.self c.accept_one.new.streams follows))
      c.if-not-accept_one.false c.accept_one.ensures.attempt);
  turns = turns_both c.args.streams.now c.loop-connection.streams c.accept_one.new.streams c.loop-connection.invariant.turns c.accept_one.ensures.turns;
}

pub returns-then-not-accept_one : goal.returns-then-not-accept_one
returns-then-not-accept_one g c = record {
  followed = heard_then g.W.World.performs c.args.streams.now.slots.items c.loop-connection.streams.slots.items c.accept_one.new.streams.slots.items c.args.world.now c.loop-connection.world c.accept_one.new.world
      c.loop-connection.invariant.followed c.accept_one.ensures.followed;
  accepts = last_tried g.W.World.performs c.args.index c.args.now c.args.self.now c.args.streams.now c.args.world.now c.loop-connection.world c.accept_one.new.world c.loop-connection._connection
      c.loop-connection.self c.accept_one.new.self c.loop-connection.streams c.accept_one.new.streams (omega arith) (omega arith) c.loop-connection.invariant.tried
      (subst (λ (follows : Bool). Performs g.W.World.performs c.loop-connection.world c.accept_one.new.world (λ es. IsAttempt c.args.index c.args.now c.loop-connection.self c.loop-connection.streams es c.accept_one.new.self c.accept_one.new.streams follows))
      c.if-not-accept_one.true c.accept_one.ensures.attempt);
  turns = turns_both c.args.streams.now c.loop-connection.streams c.accept_one.new.streams c.loop-connection.invariant.turns c.accept_one.ensures.turns;
}

pub returns-then-now-self : goal.returns-then-now-self
returns-then-now-self g c = record {
  followed = heard_none g.W.World.performs c.args.streams.now.slots.items c.args.world.now;
  accepts = record { events = []; led = refl; holds = is_early (omega arith) refl refl refl };
  turns = turns_kept c.args.streams.now;
}

pub returns : goal.returns
returns g c = record {
  followed = c.loop-connection.invariant.followed;
  accepts = all_tried g.W.World.performs c.args.index c.args.now c.args.self.now c.args.streams.now c.args.world.now c.loop-connection.world c.loop-connection._connection
      c.loop-connection.self c.loop-connection.streams (omega arith) (omega arith) c.loop-connection.invariant.tried;
  turns = c.loop-connection.invariant.turns;
}
