use Rattle.std.proofs.Common.{◌∷◌, [], List, None, Option, Some, map, refl, subst, sym}
use Rattle.dns_sockets.specs.Connections.{AreFollowed}
use Rattle.dns_sockets.specs.StreamTable.{closed_at}
use Rattle.dns_sockets.specs.Trace.{At}
use Rattle.dns_sockets.specs.World.{Accepted, Closed}
use Rattle.dns_sockets.specs.declared.stream.Stream.{Stream}
use Rattle.dns_sockets.proofs.ConnectionLaws.{accepted_then, aside_followed, closed_followed, heard_one, heard_then, unaccepted_followed}
use Rattle.dns_sockets.specs.declared.world.Arrival.TheVariants as arrivals
use Rattle.dns_sockets.proofs.listener.Listener.accept_one.Goals as goal

pub returns-in-Connection-clause-followed : goal.returns-in-Connection-clause-followed
returns-in-Connection-clause-followed g c =
    let rest = c.admit.ensures.followed in
    record {
      events = Accepted c.args.index (Some c.in-Connection.peer) ∷ rest.events;
      led = (c.accept.new.self, (c.in-Connection.ensures, rest.led));
      holds = ((tt, rest.holds.0), accepted_then c.args.index c.in-Connection.peer c.args.streams.now.slots.items c.admit.new.streams.slots.items (map At rest.events) rest.holds.1);
    }

pub returns-in-Interrupted-clause-followed : goal.returns-in-Interrupted-clause-followed
returns-in-Interrupted-clause-followed g c = heard_one g.W.World.performs c.args.streams.now.slots.items c.args.streams.now.slots.items c.args.world.now c.accept.new.self (Accepted c.args.index None) c.in-Interrupted.ensures tt
    (unaccepted_followed c.args.index c.args.streams.now.slots.items)

pub returns-in-Nothing-clause-followed : goal.returns-in-Nothing-clause-followed
returns-in-Nothing-clause-followed g c = heard_one g.W.World.performs c.args.streams.now.slots.items c.args.streams.now.slots.items c.args.world.now c.accept.new.self (Accepted c.args.index None) c.in-Nothing.ensures tt
    (unaccepted_followed c.args.index c.args.streams.now.slots.items)

pub returns-in-Failed-clause-followed : goal.returns-in-Failed-clause-followed
returns-in-Failed-clause-followed g c =
    let slots = c.args.streams.now.slots.items in
    let new = c.close_oldest.new.self.slots.items in
    heard_then g.W.World.performs slots slots new c.args.world.now c.accept.new.self c.close_oldest.new.world
    (heard_one g.W.World.performs slots slots c.args.world.now c.accept.new.self (Accepted c.args.index None) c.in-Failed.ensures tt (unaccepted_followed c.args.index slots))
    (heard_one g.W.World.performs slots new c.accept.new.self c.close_oldest.new.world (Closed c.close_oldest.result) c.close_oldest.ensures.world tt
    (subst (λ (after : List (Option Stream)). AreFollowed slots after (At (Closed c.close_oldest.result) ∷ [])) (sym {A = List (Option Stream)} c.close_oldest.ensures.closed)
    (aside_followed slots (closed_at slots c.close_oldest.result) (At (Closed c.close_oldest.result) ∷ []) (closed_followed slots c.close_oldest.result))))

pub returns-in-Connection-clause-attempt : goal.returns-in-Connection-clause-attempt
returns-in-Connection-clause-attempt g c =
    let rest = c.admit.ensures.admits in
    record {
      events = Accepted c.args.index (Some c.in-Connection.peer) ∷ rest.events;
      led = (c.accept.new.self, (c.in-Connection.ensures, rest.led));
      holds = (arrivals.Connection c.in-Connection.peer, rest.events, (refl, (rest.holds, (refl, refl))));
    }

pub returns-in-Interrupted-clause-attempt : goal.returns-in-Interrupted-clause-attempt
returns-in-Interrupted-clause-attempt g c = record {
  events = Accepted c.args.index None ∷ [];
  led = (c.accept.new.self, (c.in-Interrupted.ensures, refl));
  holds = (arrivals.Interrupted, [], (refl, (refl, (refl, (refl, refl)))));
}

pub returns-in-Nothing-clause-attempt : goal.returns-in-Nothing-clause-attempt
returns-in-Nothing-clause-attempt g c = record {
  events = Accepted c.args.index None ∷ [];
  led = (c.accept.new.self, (c.in-Nothing.ensures, refl));
  holds = (arrivals.Nothing, [], (refl, (refl, (refl, (refl, refl)))));
}

pub returns-in-Failed-clause-attempt : goal.returns-in-Failed-clause-attempt
returns-in-Failed-clause-attempt g c = record {
  events = Accepted c.args.index None ∷ Closed c.close_oldest.result ∷ [];
  led = (c.accept.new.self, (c.in-Failed.ensures, (c.close_oldest.new.world, (c.close_oldest.ensures.world, refl))));
  holds = (arrivals.Failed, Closed c.close_oldest.result ∷ [], (refl, (c.close_oldest.result, (c.close_oldest.ensures.oldest, (refl, (c.close_oldest.ensures.closed, (cc, refl)))))));
}
