use Rattle.std.proofs.Common.{◌≡◌, ◌<◌, ◌-◌, ◌+◌, List, ℕ, suc, length, sym, ap, subst, ◌∙◌, arith}
use Rattle.dns_message_bytes.specs.view.internal.PlainNames.{IsWhole}
use Rattle.dns_message_bytes.proofs.PlainNameLaws.{splits, split-len, split-left, next_labels}
use Rattle.dns_message_bytes.proofs.view.plain_name.labels.PlainLabelsIterator.next.Goals as goal

fewer : (a b : ℕ) → a ≡ suc b → b < a
fewer a b e = omega (arith, e)

pub invariant_of-self : goal.invariant_of-self
invariant_of-self c =
    let count = c.self.inside.label_count in
    let bytes = c.self.inside.bytes.now in
    let some = c.if-self-eq0.false in
    let s = splits count bytes c.self.invariant (omega (arith, some)) in
    let end = ap (λ (n : ℕ). n + 1) (c.from-end.ensures ∙ split-len count bytes s) in
    subst (λ (xs : List ℕ). IsWhole (count - 1) xs) (sym (split-left count bytes _ s end)) s.left

pub returns-clause-steps : goal.returns-clause-steps
returns-clause-steps c =
    let count = c.self.inside.label_count in
    let bytes = c.self.inside.bytes.now in
    let some = c.if-self-eq0.false in
    let s = splits count bytes c.self.invariant (omega (arith, some)) in
    let end = ap (λ (n : ℕ). n + 1) (c.from-end.ensures ∙ split-len count bytes s) in
    sym c.self.view_is ∙ next_labels count bytes _ s end

pub returns-clause-goes : goal.returns-clause-goes
returns-clause-goes c =
    let count = c.self.inside.label_count in
    let bytes = c.self.inside.bytes.now in
    let some = c.if-self-eq0.false in
    let s = splits count bytes c.self.invariant (omega (arith, some)) in
    let end = ap (λ (n : ℕ). n + 1) (c.from-end.ensures ∙ split-len count bytes s) in
    let lens = ap (λ (ls : List (List ℕ)). length ls) (sym c.self.view_is ∙ next_labels count bytes _ s end) in
    record { on = λ _. (tt, tt, fewer _ _ lens); keeps = tt; rests = λ _. tt }
