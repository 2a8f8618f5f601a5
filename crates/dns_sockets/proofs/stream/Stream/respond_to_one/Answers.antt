use Rattle.std.proofs.Common.{[], ◌∷◌, List, ℕ, Option, Some, None, refl, subst}
use Rattle.std.specs.Global.{Vec}
use Rattle.std.specs.Prelude.{is_err}
use Rattle.dns_sockets.specs.Handler.{RequestContent, Transferred, messages_of, request_content}
use Rattle.dns_sockets.specs.Stream.{AreHandled}
use Rattle.dns_sockets.specs.StreamSteps.{IsAnswered}
use Rattle.dns_sockets.proofs.StreamStepLaws.{refused_answered, then_answered, transfer_on, transferred_at_least}
use Rattle.dns_sockets.proofs.stream.Stream.respond_to_one.Goals as goal

pub returns-in_err-messages-clause-calls : goal.returns-in_err-messages-clause-calls
returns-in_err-messages-clause-calls g c = record {
  events = Transferred (request_content c.args.request.now) c.args.is_busy None ∷ [];
  led = (c.transfer.new.self, (c.in_err-messages.ensures, refl));
  holds = ((None, [], (refl, refl)), refused_answered _ (request_content c.args.request.now ∷ []) _ c.args.self.now.held.items c.from_residual.ensures.0 (transferred_at_least (request_content c.args.request.now) c.args.is_busy None c.args.self.now.held.items));
}

pub returns-in-Some-clause-calls : goal.returns-in-Some-clause-calls
returns-in-Some-clause-calls g c = record {
  events = Transferred (request_content c.args.request.now) c.args.is_busy (Some (messages_of (Some c.in-Some.messages))) ∷ [];
  led = (c.transfer.new.self, (subst (λ (m : Option (Vec (Vec ℕ))). g.H.Handler.steps c.args.handler.now (Transferred (request_content c.args.request.now) c.args.is_busy (Some (messages_of m))) c.transfer.new.self) c.in-Some.is c.in_ok-messages.ensures, refl));
  holds = ((Some (messages_of (Some c.in-Some.messages)), [], (refl, refl)), transfer_on c.hold_all.result (request_content c.args.request.now) c.args.is_busy c.in-Some.messages.items c.args.self.now.held.items c.hold_all.new.self.held.items c.args.now c.requires.none_held c.hold_all.ensures.held);
}

pub returns-in-None-clause-calls : goal.returns-in-None-clause-calls
returns-in-None-clause-calls g c =
    let handled = c.respond_together.ensures.calls in
    record {
      events = Transferred (request_content c.args.request.now) c.args.is_busy (Some None) ∷ handled.events;
      led = (c.transfer.new.self, (subst (λ (m : Option (Vec (Vec ℕ))). g.H.Handler.steps c.args.handler.now (Transferred (request_content c.args.request.now) c.args.is_busy (Some (messages_of m))) c.transfer.new.self) c.in-None.is c.in_ok-messages.ensures, handled.led));
      holds = (
        (Some None, handled.events, (refl, subst (λ (rs : List RequestContent). AreHandled rs handled.events) c.requires.one handled.holds.0)),
        then_answered (is_err c.respond_together.result) c.args.is_busy (request_content c.args.request.now) handled.events c.respond_together.new.self.held.items (subst (λ (rs : List RequestContent). IsAnswered (is_err c.respond_together.result) rs handled.events c.respond_together.new.self.held.items) c.requires.one handled.holds.1),
      );
    }
