use Rattle.std.proofs.Common.{◌∙◌, ◌<◌, [], ◌∷◌, List, Option, Some, ap, arith, length, refl, subst, sym}
use Rattle.dns_sockets.specs.Connections.{AreFollowedAside}
use Rattle.dns_sockets.specs.StreamTable.{IsLeastActive, closed_at}
use Rattle.dns_sockets.specs.StreamTable.Vacates.{adds_one, closes_one, has_one}
use Rattle.dns_sockets.specs.Trace.{At}
use Rattle.dns_sockets.specs.World.{Closed}
use Rattle.dns_sockets.specs.declared.stream.Stream.{Stream}
use Rattle.dns_sockets.proofs.ConnectionLaws.{closed_followed, grown_kept, kept_followed, least_within, none_set, vacant_end}
use Rattle.dns_sockets.proofs.stream_table.StreamTable.vacate.Goals as goal

pub returns-then-grow-clause-events : goal.returns-then-grow-clause-events
returns-then-grow-clause-events g c = record {
  events = [];
  led = refl;
  holds = (tt, kept_followed c.args.self.now.slots.items c.grow.new.self.slots.items (grown_kept c.args.self.now.slots.items c.grow.new.self.slots.items (c.grow.ensures.grown c.if-grow.true)));
}

pub returns-then-grow-clause-vacant : goal.returns-then-grow-clause-vacant
returns-then-grow-clause-vacant g c = vacant_end c.args.self.now.slots.items c.grow.new.self.slots.items c.len-count.result (c.grow.ensures.grown c.if-grow.true) (omega (arith, c.len-count.ensures, c.args.self.now.slots.ok))

pub returns-clause-events : goal.returns-clause-events
returns-clause-events g c =
    let slots = c.grow.new.self.slots.items in
    record {
      events = Closed c.close_oldest.result ∷ [];
      led = (c.close_oldest.new.world, (c.close_oldest.ensures.world, refl));
      holds = (
        (tt, tt),
        subst (λ (old : List (Option Stream)). AreFollowedAside old c.close_oldest.new.self.slots.items (At (Closed c.close_oldest.result) ∷ [])) (c.grow.ensures.full c.if-grow.false)
            (subst (λ (new : List (Option Stream)). AreFollowedAside slots new (At (Closed c.close_oldest.result) ∷ [])) (sym c.close_oldest.ensures.closed) (closed_followed slots c.close_oldest.result)),
      );
    }

pub returns-clause-vacant : goal.returns-clause-vacant
returns-clause-vacant g c =
    let slots = c.grow.new.self.slots.items in
    let some : 0 < length slots = subst (λ (old : List (Option Stream)). 0 < length old) (sym (c.grow.ensures.full c.if-grow.false)) (omega (arith, c.len-count.ensures, c.args.self.now.slots.ok, c.if-count-eq0.false)) in
    none_set slots c.close_oldest.new.self.slots.items c.close_oldest.result (least_within slots c.close_oldest.result some c.close_oldest.ensures.oldest) c.close_oldest.ensures.closed

pub returns-in-Some-clause-vacates : goal.returns-in-Some-clause-vacates
returns-in-Some-clause-vacates g c = record { events = []; led = refl; holds = has_one c.in-Some.slot (sym c.free_slot.ensures.first ∙ c.in-Some.is) refl refl refl }

pub returns-then-grow-clause-vacates : goal.returns-then-grow-clause-vacates
returns-then-grow-clause-vacates g c = record {
  events = [];
  led = refl;
  holds = adds_one (sym c.free_slot.ensures.first ∙ c.in_default.is) (ap Some (c.len-count.ensures ∙ c.args.self.now.slots.ok.0)) refl (c.grow.ensures.grown c.if-grow.true);
}

pub returns-clause-vacates : goal.returns-clause-vacates
returns-clause-vacates g c =
    let slots = c.args.self.now.slots.items in
    let same = c.grow.ensures.full c.if-grow.false in
    record {
      events = Closed c.close_oldest.result ∷ [];
      led = (c.close_oldest.new.world, (c.close_oldest.ensures.world, refl));
      holds = closes_one c.close_oldest.result (sym c.free_slot.ensures.first ∙ c.in_default.is) (c.grow.ensures.refused c.if-grow.false)
          (subst (λ (old : List (Option Stream)). IsLeastActive old c.close_oldest.result) same c.close_oldest.ensures.oldest)
          (least_within slots c.close_oldest.result (omega (arith, c.len-count.ensures, c.args.self.now.slots.ok, c.if-count-eq0.false)) (subst (λ (old : List (Option Stream)). IsLeastActive old c.close_oldest.result) same c.close_oldest.ensures.oldest))
          refl refl (c.close_oldest.ensures.closed ∙ ap (λ (old : List (Option Stream)). closed_at old c.close_oldest.result) same);
    }
