use Rattle.std.proofs.Common.{◌∷◌, [], None, Some, arith, inl, inr, refl}
use Rattle.std.proofs.lemmas.Bool.Decides.{nat_tests}
use Rattle.dns_sockets.specs.Trace.{At}
use Rattle.dns_sockets.specs.World.{Clocked}
use Rattle.dns_sockets.proofs.DeliveryLaws.{none_gathered}
use Rattle.dns_sockets.proofs.datagrams.handle_all.Goals as goal

pub returns-then-is_empty : goal.returns-then-is_empty
returns-then-is_empty g c = record { acts = []; leads = (refl, refl); holds = inl (refl, (none_gathered c.args.gathered.now (grind (arith, nat_tests, c.if-is_empty.ensures)), refl)) }

pub returns-in_err-now : goal.returns-in_err-now
returns-in_err-now g c = record {
  acts = At (Clocked None) ∷ [];
  leads = (c.now.new.self, (c.in_err-now.ensures, (refl, refl)));
  holds = inr (None, [], (refl, (refl, refl)));
}

pub returns : goal.returns
returns g c =
    let done = c.handle_at.ensures in
    record {
      acts = At (Clocked (Some c.in_ok-now.now)) ∷ done.acts;
      leads = (c.now.new.self, (c.in_ok-now.ensures, done.leads));
      holds = inr (Some c.in_ok-now.now, done.acts, (refl, done.holds));
    }
