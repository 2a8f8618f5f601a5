use Rattle.std.proofs.Common.{◌∙◌, Bool, Option, Some, None, [], ◌∷◌, false, true, refl, subst, sym}
use Rattle.dns_sockets.specs.Datagrams.{TakesIf, datagram_at, taken_if}
use Rattle.dns_sockets.specs.Handler.{Took}
use Rattle.dns_sockets.specs.World.{Clocked}
use Rattle.dns_sockets.proofs.DeliveryLaws.{not_known}
use Rattle.dns_sockets.proofs.datagrams.is_expected.Goals as goal

pub returns-then-not-is_response : goal.returns-then-not-is_response
returns-then-not-is_response g c = record {
  events = [];
  calls = [];
  led = refl;
  called = refl;
  holds = subst (λ (b : Bool). TakesIf b c.args.bytes.now c.args.peer [] [] (Some false)) (sym c.if-not-is_response.true ∙ c.is_response.ensures) (refl, (refl, refl));
}

pub returns-in_err-moment : goal.returns-in_err-moment
returns-in_err-moment g c = record {
  events = Clocked None ∷ [];
  calls = [];
  led = (c.now.new.self, (c.in_err-moment.ensures, refl));
  called = refl;
  holds = subst (λ (b : Bool). TakesIf b c.args.bytes.now c.args.peer (Clocked None ∷ []) [] (taken_if c.from_residual.result)) (sym c.if-not-is_response.false ∙ c.is_response.ensures)
      (subst (λ (taken : Option Bool). TakesIf true c.args.bytes.now c.args.peer (Clocked None ∷ []) [] taken) (sym (not_known c.from_residual.result c.from_residual.ensures.0)) (refl, refl));
}

pub returns : goal.returns
returns g c =
    let moment = c.in_ok-moment.moment in
    let calls = Took (datagram_at c.args.bytes.now c.args.peer moment) c.take_response.result ∷ [] in
    record {
      events = Clocked (Some moment) ∷ [];
      calls = calls;
      led = (c.now.new.self, (c.in_ok-moment.ensures, refl));
      called = (c.take_response.new.self, (c.take_response.ensures, refl));
      holds = subst (λ (b : Bool). TakesIf b c.args.bytes.now c.args.peer (Clocked (Some moment) ∷ []) calls (Some c.take_response.result)) (sym c.if-not-is_response.false ∙ c.is_response.ensures)
          (moment, (refl, refl));
    }
