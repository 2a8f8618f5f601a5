use Rattle.dns_updates.proofs.OwnerCodeLaws.{room}
use Rattle.std.proofs.Common.{◌≤◌, ℕ, subst}
use Rattle.dns_server.proofs.zone_table.origin_key.OriginKey.of.Goals as goal

pub push-requires : goal.push-requires
push-requires c =
    room c.args.origin.now.labels c.loop-label.labels c.next_back.new.self c.loop-label.key c.in-Some.label.now c.loop-label.invariant c.in-Some.ensures.steps
    (subst (λ (n : ℕ). n ≤ 255) c.encoded_len.ensures.value c.if-prove.false)
