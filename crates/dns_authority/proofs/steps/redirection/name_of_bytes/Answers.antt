use Rattle.std.proofs.Common.{◌≡◌, ◌+◌, ◌-◌, ◌∙◌, [], List, ℕ, None, Some, ap, arith, sym}
use Rattle.std.proofs.lemmas.List.{nil_from_length}
use Rattle.std.proofs.lemmas.Bool.Decides.{nat_tests}
use Rattle.dns_authority.specs.steps.Redirection.{max_labels, name_along, with_label}
use Rattle.dns_authority.proofs.RedirectionLaws.{appends, if_ok, reads_label, reads_none}
use Rattle.dns_authority.proofs.steps.redirection.name_of_bytes.Goals as goal

pub returns-in_default : goal.returns-in_default
returns-in_default c = sym (reads_label c.loop.counter c.loop.name c.loop.rest.now None (omega arith) c.in_default.ensures) ∙ c.loop.invariant

pub returns-then-is_empty : goal.returns-then-is_empty
returns-then-is_empty c =
    let empty : c.in-Some.label.now ≡ [] = nil_from_length c.in-Some.label.now (grind (arith, nat_tests)) in
    let rest = name_along (max_labels - (c.loop.counter + 1)) in
    c.closed.ensures rest ∙ ap (λ (label : List ℕ). with_label rest c.loop.name label c.in-Some.left.now) (sym empty)
    ∙ sym (reads_label c.loop.counter c.loop.name c.loop.rest.now (Some (c.in-Some.label.now, c.in-Some.left.now)) (omega arith) c.in-Some.ensures) ∙ c.loop.invariant

pub returns-in-Err : goal.returns-in-Err
returns-in-Err c =
    if_ok c.refused.result c.refused.ensures.ok
    (λ name p.
    p.1
    ∙ sym (reads_label c.loop.counter c.loop.name c.loop.rest.now (Some (c.in-Some.label.now, c.in-Some.left.now)) (omega arith) c.in-Some.ensures
    ∙ appends (name_along (max_labels - (c.loop.counter + 1))) c.loop.name c.in-Some.label.now c.in-Some.left.now _ (λ none. absurd (grind (arith, nat_tests))) (c.in-Err.ensures.outcome p.0))
    ∙ c.loop.invariant)

pub loop-preserved : goal.loop-preserved
loop-preserved c =
    sym (reads_label c.loop.counter c.loop.name c.loop.rest.now (Some (c.in-Some.label.now, c.in-Some.left.now)) (omega arith) c.in-Some.ensures
    ∙ appends (name_along (max_labels - (c.loop.counter + 1))) c.loop.name c.in-Some.label.now c.in-Some.left.now _ (λ none. absurd (grind (arith, nat_tests))) c.in-Ok.ensures.outcome)
    ∙ c.loop.invariant

pub returns : goal.returns
returns c = sym (reads_none c.loop.counter c.loop.name c.loop.rest.now (omega arith)) ∙ c.loop.invariant
