use Rattle.std.proofs.Common.{List, ℕ, subst, arith}
use Rattle.std.specs.List.{AllByRecursion}
use Rattle.dns_wire.specs.Name.{IsLabel}
use Rattle.dns_formats.proofs.ValueLaws.{label_further}
use Rattle.dns_formats.proofs.value.push_labels.Goals as goal

pub loop-label-preserved : goal.loop-label-preserved
loop-label-preserved c = record {
  each = (subst (λ (l : List (List ℕ)). AllByRecursion IsLabel l) c.in-Some.ensures.steps c.loop-label.invariant.each).1;
  completes = rw c.in_ok-push_counted.ensures
      (label_further _ c.loop-label.out.items c.in-Some.label.now c.next.new.self c.loop-label.label-iterator c.in-Some.ensures.steps c.loop-label.invariant.completes);
}

pub push_counted-requires : goal.push_counted-requires
push_counted-requires c =
    let most = (subst (λ (l : List (List ℕ)). AllByRecursion IsLabel l) c.in-Some.ensures.steps c.loop-label.invariant.each).0.most in
    omega (arith, most)
