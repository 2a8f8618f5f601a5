use Rattle.std.proofs.Common.{[], ◌∷◌, map, refl}
use Rattle.dns_sockets.specs.Connections.{connection_of}
use Rattle.dns_sockets.specs.StreamSteps.{ends, ends_if}
use Rattle.dns_sockets.specs.Trace.{At, IsEventOf, IsOfStream}
use Rattle.dns_sockets.specs.World.{WorldEvent, write_event}
use Rattle.dns_sockets.proofs.MomentLaws.{timed_events, timed_none}
use Rattle.dns_sockets.proofs.StreamStepLaws.{consulted, stays_leaves, write_leaves}
use Rattle.dns_sockets.proofs.TraceLaws.{all_are, leads_at, read_is, write_is}
use Rattle.std.proofs.Common.{inl}
use Rattle.dns_sockets.proofs.ActivityLaws.{active_events}
use Rattle.dns_sockets.proofs.stream.Stream.step.Goals as goal

pub returns-then-self-clause-acts : goal.returns-then-self-clause-acts
returns-then-self-clause-acts g c =
    let wrote = c.write.ensures.write in
    record {
      acts = At (write_event c.args.index wrote.0 c.args.self.now.output) ∷ [];
      leads = (c.write.new.world, (wrote.1.0, (refl, refl)));
      holds = (
        (write_is c.args.index wrote.0 c.args.self.now.output, tt),
        write_leaves (ends c.write.result) c.args.index wrote.0 c.args.self.now (connection_of c.write.new.self) wrote.1.1.0 wrote.1.1.1,
        timed_events (write_event c.args.index wrote.0 c.args.self.now.output ∷ []),
      );
    }

pub returns-then-is_some-clause-acts : goal.returns-then-is_some-clause-acts
returns-then-is_some-clause-acts g c =
    let called = c.handle.ensures.answers in
    consulted g.W.World.performs g.H.Handler.steps (ends_if c.handle.result) c.args.index (connection_of c.args.self.now) (connection_of c.handle.new.self) c.args.self.now.peer c.args.is_busy
    c.args.world.now c.handle.new.world c.args.handler.now c.handle.new.handler called

pub returns-clause-acts : goal.returns-clause-acts
returns-clause-acts g c =
    let happened = c.receive.ensures.reads in
    record {
      acts = map At happened.events;
      leads = leads_at g.W.World.performs g.H.Handler.steps c.args.world.now c.receive.new.world c.args.handler.now happened.events happened.led;
      holds = (
        all_are g.W.World.performs g.H.Handler.steps (IsEventOf c.args.index) (IsOfStream c.args.index) At (λ (e : WorldEvent) (is : IsEventOf c.args.index e). is) happened.events
            (read_is c.args.index happened.events happened.holds.0),
        happened.holds.1,
        timed_events happened.events,
      );
    }

pub returns-else-has_output-2-clause-acts : goal.returns-else-has_output-2-clause-acts
returns-else-has_output-2-clause-acts g c = record { acts = []; leads = (refl, refl); holds = (tt, λ accepted. (_, refl), timed_none) }

pub returns-then-not-is_empty-clause-acts : goal.returns-then-not-is_empty-clause-acts
returns-then-not-is_empty-clause-acts g c = record {
  acts = [];
  leads = (refl, refl);
  holds = (tt, stays_leaves (ends c.release.result) c.args.index (connection_of c.args.self.now) (connection_of c.release.new.self) c.release.ensures.stays, timed_none);
}

pub returns-then-self-clause-active : goal.returns-then-self-clause-active
returns-then-self-clause-active g c = active_events g.W.World.performs g.H.Handler.steps c.args.self.now.last_activity c.write.new.self.last_activity c.args.world.now c.write.new.world c.args.handler.now c.write.ensures.active

pub returns-then-is_some-clause-active : goal.returns-then-is_some-clause-active
returns-then-is_some-clause-active g c = inl c.handle.ensures.active

pub returns-clause-active : goal.returns-clause-active
returns-clause-active g c = active_events g.W.World.performs g.H.Handler.steps c.args.self.now.last_activity c.receive.new.self.last_activity c.args.world.now c.receive.new.world c.args.handler.now c.receive.ensures.active

pub returns-then-not-is_empty-clause-active : goal.returns-then-not-is_empty-clause-active
returns-then-not-is_empty-clause-active g c = inl c.release.ensures.active
