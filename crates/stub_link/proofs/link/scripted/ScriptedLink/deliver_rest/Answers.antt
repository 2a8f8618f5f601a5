use Rattle.std.proofs.Common.{refl, subst, List, ℕ, map, sym, ap, Result}
use Rattle.std.specs.Global.{Vec}
use Rattle.stub_link.specs.ScriptedLink.{AreRelated, IsRequest}
use Rattle.stub_link.proofs.Scripts.{rest-delivered-by}
use Rattle.stub_link.proofs.link.scripted.ScriptedLink.deliver_rest.Goals as goal

pub returns-clause-ends : goal.returns-clause-ends
returns-clause-ends c =
    rest-delivered-by c.args.self.now _ c.deliver_events.new.self c.deliver_events.result
    (λ state sent at related. c.in_ok-deliver_all.ensures.delivers state sent at (subst (λ (xs : List (Vec ℕ)). AreRelated IsRequest (map (λ (b : Vec ℕ). b.items) xs) sent) (sym c.as_slice.ensures.value) related))
    refl refl refl c.deliver_events.ensures.ends
