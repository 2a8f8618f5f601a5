use Rattle.std.proofs.Common.{[], ◌∷◌, ◌++◌, ℕ, List, Option, false, refl, true, subst, sym}
use Rattle.dns_sockets.specs.StreamTable.{Vacates}
use Rattle.dns_sockets.specs.Connections.{IsAdmitted}
use Rattle.dns_sockets.specs.Trace.{At}
use Rattle.dns_sockets.specs.World.{Admitted}
use Rattle.dns_sockets.specs.declared.stream.Stream.{Stream}
use Rattle.dns_sockets.proofs.ConnectionLaws.{admitted_at, admitted_followed, unadmitted_followed, vacated_admitted}
use Rattle.dns_sockets.specs.Listener.Admits.{has_no_place, is_admitted, is_refused}
use Rattle.dns_sockets.proofs.ListenerLaws.{event_more, turns_both}
use Rattle.dns_sockets.proofs.listener.admit.Goals as goal

pub returns-then-admit-clause-followed : goal.returns-then-admit-clause-followed
returns-then-admit-clause-followed g c =
    let slots = c.vacate.new.self.slots.items in
    admitted_at g.W.World.performs true c.args.peer c.args.streams.now.slots.items slots c.put.new.self.slots.items c.in-Some.index c.args.world.now c.vacate.new.world c.admit.new.self
    c.vacate.ensures.events c.if-admit.ensures
    (subst (λ (new : List (Option Stream)). IsAdmitted c.args.peer slots new (At (Admitted c.in-Some.index true) ∷ [])) (sym {A = List (Option Stream)} c.put.ensures.put)
    (admitted_followed slots c.in-Some.index c.new.result c.args.peer c.in-Some.ensures.vacant c.new.ensures.connected))

pub returns-else-admit-clause-followed : goal.returns-else-admit-clause-followed
returns-else-admit-clause-followed g c =
    let slots = c.vacate.new.self.slots.items in
    admitted_at g.W.World.performs false c.args.peer c.args.streams.now.slots.items slots slots c.in-Some.index c.args.world.now c.vacate.new.world c.admit.new.self
    c.vacate.ensures.events c.if-admit.ensures (unadmitted_followed slots c.in-Some.index c.args.peer c.in-Some.ensures.vacant)

pub returns-in_default-clause-followed : goal.returns-in_default-clause-followed
returns-in_default-clause-followed g c = record { events = c.vacate.ensures.events.events; led = c.vacate.ensures.events.led; holds = (c.vacate.ensures.events.holds.0, vacated_admitted c.args.peer c.args.streams.now.slots.items c.vacate.new.self.slots.items _ c.vacate.ensures.events.holds.1) }

pub returns-then-admit-clause-admits : goal.returns-then-admit-clause-admits
returns-then-admit-clause-admits g c =
    let vacated = c.vacate.ensures.vacates in
    record {
      events = vacated.events ++ Admitted c.in-Some.index true ∷ [];
      led = event_more g.W.World.performs c.args.world.now c.vacate.new.world c.admit.new.self vacated.events (Admitted c.in-Some.index true) vacated.led c.if-admit.ensures;
      holds = is_admitted c.vacate.new.self vacated.events c.in-Some.index c.new.result (subst (λ (place : Option ℕ). Vacates c.args.streams.now c.vacate.new.self vacated.events place) c.in-Some.is vacated.holds) c.new.ensures.fresh refl c.put.ensures.put;
    }

pub returns-else-admit-clause-admits : goal.returns-else-admit-clause-admits
returns-else-admit-clause-admits g c =
    let vacated = c.vacate.ensures.vacates in
    record {
      events = vacated.events ++ Admitted c.in-Some.index false ∷ [];
      led = event_more g.W.World.performs c.args.world.now c.vacate.new.world c.admit.new.self vacated.events (Admitted c.in-Some.index false) vacated.led c.if-admit.ensures;
      holds = is_refused vacated.events c.in-Some.index (subst (λ (place : Option ℕ). Vacates c.args.streams.now c.vacate.new.self vacated.events place) c.in-Some.is vacated.holds) refl;
    }

pub returns-in_default-clause-admits : goal.returns-in_default-clause-admits
returns-in_default-clause-admits g c =
    let vacated = c.vacate.ensures.vacates in
    record {
      events = vacated.events;
      led = vacated.led;
      holds = has_no_place (subst (λ (place : Option ℕ). Vacates c.args.streams.now c.vacate.new.self vacated.events place) c.in_default.is vacated.holds);
    }

pub returns-then-admit-clause-turns : goal.returns-then-admit-clause-turns
returns-then-admit-clause-turns g c = turns_both c.args.streams.now c.vacate.new.self c.put.new.self c.vacate.ensures.turns c.put.ensures.turns
