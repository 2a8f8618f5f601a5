-- Acts, and others after them.
use Rattle.std.proofs.Common.{List, [], ◌∷◌, ◌++◌, refl}
use Rattle.dns_sockets.specs.Handler.{HandlerEvent}
use Rattle.dns_sockets.specs.Trace.{Act, At, By, Leads}
use Rattle.dns_sockets.specs.World.{WorldEvent}

module _ {S H : Type 0} (performs : S → WorldEvent → S → Type 0) (steps : H → HandlerEvent → H → Type 0) where
  -- the states between them
  pub split : (w new : S) (h after : H) (acts more : List Act) → Leads performs steps w h (acts ++ more) new after
      → (w_mid : S) × (h_mid : H) × (Leads performs steps w h acts w_mid h_mid × Leads performs steps w_mid h_mid more new after)
  split w new h after [] more leads = (w, h, ((refl, refl), leads))
  split w new h after (At event ∷ acts) more leads =
      let rest = split leads.0 new h after acts more leads.1.1 in
      (rest.0, rest.1, ((leads.0, (leads.1.0, rest.2.0)), rest.2.1))
  split w new h after (By origin event ∷ acts) more leads =
      let rest = split w new leads.0 after acts more leads.1.1 in
      (rest.0, rest.1, ((leads.0, (leads.1.0, rest.2.0)), rest.2.1))
