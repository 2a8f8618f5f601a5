use Rattle.std.proofs.Common.{◌∙◌, ◌-◌, ℕ, [], ◌∷◌, None, Some, inl, inr, refl, sym, ap}
use Rattle.dns_sockets.specs.Notices.{sooner}
use Rattle.dns_sockets.specs.Trace.{IsQuiet}
use Rattle.dns_sockets.specs.World.{Clocked, Waited, clock_event}
use Rattle.dns_sockets.proofs.ServedLaws.{clock_is_quiet}
use Rattle.dns_sockets.proofs.ShareLaws.{always_ok}
use Rattle.dns_sockets.proofs.TraceLaws.{performs_all, performs_one}
use Rattle.dns_sockets.proofs.service.Service.wait.Goals as goal

pub returns-then-deadline-clause-quiet : goal.returns-then-deadline-clause-quiet
returns-then-deadline-clause-quiet g c = performs_one g.W.World.performs IsQuiet c.args.world.now c.wait.new.self (Waited None) c.wait.ensures tt

pub returns-in_err-now-clause-quiet : goal.returns-in_err-now-clause-quiet
returns-in_err-now-clause-quiet g c = performs_one g.W.World.performs IsQuiet c.args.world.now c.now.new.self (clock_event c.now.result) c.now.ensures (clock_is_quiet c.now.result)

pub returns-clause-quiet : goal.returns-clause-quiet
returns-clause-quiet g c =
    performs_all g.W.World.performs IsQuiet c.args.world.now c.now.new.self c.wait-2.new.self
    (performs_one g.W.World.performs IsQuiet c.args.world.now c.now.new.self (clock_event c.now.result) c.now.ensures (clock_is_quiet c.now.result))
    (performs_one g.W.World.performs IsQuiet c.now.new.self c.wait-2.new.self (Waited _) c.wait-2.ensures tt)

pub returns-then-deadline-clause-until : goal.returns-then-deadline-clause-until
returns-then-deadline-clause-until g c = record {
  events = Waited None ∷ [];
  led = (c.wait.new.self, (c.wait.ensures, refl));
  holds = inl (sym (ap (λ (n : ℕ). sooner n c.args.moment) c.deadline.ensures) ∙ sym c.sooner-deadline.ensures ∙ c.if-deadline.true, refl);
}

pub returns-in_err-now-clause-until : goal.returns-in_err-now-clause-until
returns-in_err-now-clause-until g c = record {
  events = Clocked None ∷ [];
  led = (c.now.new.self, (c.in_err-now.ensures, refl));
  holds = inr (λ same. c.if-deadline.false (c.sooner-deadline.ensures ∙ ap (λ (n : ℕ). sooner n c.args.moment) c.deadline.ensures ∙ same), inl refl);
}

pub returns-clause-until : goal.returns-clause-until
returns-clause-until g c = record {
  events = Clocked (Some c.in_ok-now.now) ∷ Waited (Some c.saturating_sub.result) ∷ [];
  led = (c.now.new.self, (c.in_ok-now.ensures, (c.wait-2.new.self, (c.wait-2.ensures, refl))));
  holds = inr (
    λ same. c.if-deadline.false (c.sooner-deadline.ensures ∙ ap (λ (n : ℕ). sooner n c.args.moment) c.deadline.ensures ∙ same),
    inr (
      c.in_ok-now.now,
      ap (λ (n : ℕ). Clocked (Some c.in_ok-now.now) ∷ Waited (Some n) ∷ [])
          (c.saturating_sub.ensures ∙ ap (λ (n : ℕ). n - c.in_ok-now.now) (c.sooner-deadline.ensures ∙ ap (λ (n : ℕ). sooner n c.args.moment) c.deadline.ensures)),
    ),
  );
}

pub returns-then-deadline-clause-waited : goal.returns-then-deadline-clause-waited
returns-then-deadline-clause-waited g c = always_ok c.wait.result _ (record { events = Waited None ∷ []; led = (c.wait.new.self, (c.wait.ensures, refl)); holds = ([], None, refl) })

pub returns-clause-waited : goal.returns-clause-waited
returns-clause-waited g c = always_ok c.wait-2.result _ (record {
  events = Clocked (Some c.in_ok-now.now) ∷ Waited (Some c.saturating_sub.result) ∷ [];
  led = (c.now.new.self, (c.in_ok-now.ensures, (c.wait-2.new.self, (c.wait-2.ensures, refl))));
  holds = (Clocked (Some c.in_ok-now.now) ∷ [], Some c.saturating_sub.result, refl);
})
