use Rattle.std.proofs.Common.{◌≡◌, true, false, length, drop, ap, ◌∙◌, arith}
use Rattle.std.specs.Prelude.{insert}
use Rattle.dns_names.proofs.InlineLaws.{len_fits}
use Rattle.dns_names.proofs.PartialLaws.{completed, completed_name}
use Rattle.dns_names.proofs.PartsLaws.{few_labels}
use Rattle.dns_names.proofs.name.partial.PartialName.complete_label.Goals as goal
use Rattle.dns_names.proofs.name.partial.PartialName.complete_label.Goals.{In_ok-insert}

-- the bytes after the length is inserted
put : (c : In_ok-insert) → c.insert.new.self.items ≡ insert c.self.inside.wire.items c.self.inside.label_start (length (drop c.self.inside.label_start c.self.inside.wire.items))
put c =
    let len : c.label_len-len.result ≡ length (drop c.self.inside.label_start c.self.inside.wire.items) = rw (← c.self.view_is) at c.label_len-len.ensures in
    c.in_ok-insert.ensures.ok ∙ ap (insert c.self.inside.wire.items c.self.inside.label_start) len

pub overflow_add-self : goal.overflow_add-self
overflow_add-self c = omega (arith, c.self.invariant.wire.many, few_labels _ c.self.invariant.wire.are)

pub invariant_of-self-2 : goal.invariant_of-self-2
invariant_of-self-2 c =
    let at = (goal.at.invariant_of-self-2 c).In_ok-insert in
    let some = rw (← c.self.view_is) at c.requires.some in
    let fits = rw (← c.self.view_is) at c.requires.fits in
    completed _ _ _ c.self.invariant c.insert.new.self.items c.len-self-inside.result (put at) c.len-self-inside.ensures.value some fits

pub returns-clause-ok : goal.returns-clause-ok
returns-clause-ok c =
    let at = (goal.at.returns-clause-ok c).In_ok-insert in
    rw (← c.self.view_is) (completed_name _ _ _ c.self.invariant c.insert.new.self.items c.len-self-inside.result (put at) c.len-self-inside.ensures.value)

pub returns-in_err-insert-clause-inline : goal.returns-in_err-insert-clause-inline
returns-in_err-insert-clause-inline c =
    rw (← c.self.view_is)
    (λ is.
    let clash : false ≡ true = c.in_err-insert.ensures.succeeds (omega (arith, c.capacity.ensures.value, c.capacity.ensures.at_least_inline, len_fits _ _ _ c.self.invariant is)) in
    absurd (cc))
