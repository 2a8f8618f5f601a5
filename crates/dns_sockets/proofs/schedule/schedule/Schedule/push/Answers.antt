use Rattle.std.proofs.Common.{◌∙◌, ◌+◌, ap, subst, sym}
use Rattle.dns_sockets.specs.schedule.Schedule.{scheduled}
use Rattle.dns_sockets.specs.schedule.internal.Store.{AreBelow, waiting_of}
use Rattle.dns_sockets.proofs.StoreLaws.{waiting-insert, below-insert}
use Rattle.dns_sockets.proofs.schedule.schedule.Schedule.push.Goals as goal

pub invariant_of-self : goal.invariant_of-self
invariant_of-self g c =
    subst (AreBelow (c.self.inside.pushed + 1)) (sym c.in-Ok.ensures.entries)
    (below-insert _ c.args.moment _ c.args.item c.self.invariant)

pub returns-in-Ok-clause-ok : goal.returns-in-Ok-clause-ok
returns-in-Ok-clause-ok g c =
    ap (λ es. record { items = es; capacity = c.self.inside.capacity; pushed = c.self.inside.pushed + 1 })
    (ap waiting_of c.in-Ok.ensures.entries ∙ waiting-insert _ c.args.moment _ c.args.item c.self.invariant)
    ∙ ap (λ s. scheduled s c.args.moment c.args.item) c.self.view_is
