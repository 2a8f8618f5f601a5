use Rattle.dns_updates.proofs.OwnerCodeLaws.{fits, room}
use Rattle.std.proofs.Common.{◌≤◌, ℕ, subst}
use Rattle.dns_updates.proofs.keys.owner_bytes.Goals as goal

pub push_label-requires : goal.push_label-requires
push_label-requires c =
    room c.args.owner.now.labels c.loop-label.labels c.next_back.new.self c.loop-label.key.items c.in-Some.label.now c.loop-label.invariant c.in-Some.ensures.steps
    (subst (λ (n : ℕ). n ≤ 255) c.encoded_len.ensures.value c.if-prove.false)

pub returns-clause-most : goal.returns-clause-most
returns-clause-most c =
    fits c.args.owner.now.labels c.loop-label.labels c.loop-label.key.items c.loop-label.invariant (subst (λ (n : ℕ). n ≤ 255) c.encoded_len.ensures.value c.if-prove.false)
