use Rattle.std.proofs.Common.{◌∙◌}
use Rattle.dns_updates.specs.Keys.{bytes_cmp}
use Rattle.dns_updates.proofs.FrontLaws.{by_first, by_second}
use Rattle.dns_updates.proofs.keys.OwnerKeyOrd.cmp.Goals as goal

pub returns-then-self-other : goal.returns-then-self-other
returns-then-self-other c =
    c.cmp.ensures ∙ by_first _ _ _ _ _ _ c.self.invariant c.other.invariant c.if-self-other.true
    ∙ (λ i. bytes_cmp (c.self.view_is i) (c.other.view_is i))

pub returns-then-self-other-2 : goal.returns-then-self-other-2
returns-then-self-other-2 c =
    c.cmp-then-self-other-2.ensures ∙ by_second _ _ _ _ _ _ c.self.invariant c.other.invariant c.if-self-other.false c.if-self-other-2.true
    ∙ (λ i. bytes_cmp (c.self.view_is i) (c.other.view_is i))
