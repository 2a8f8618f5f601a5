use Rattle.std.proofs.Common.{◌+◌, ◌*◌, ℕ, sym, ap, ◌∙◌, arith}
use Rattle.dns_updates.specs.internal.OwnerKeys.{front}
use Rattle.dns_updates.proofs.FrontLaws.{front_fits, front_more}
use Rattle.dns_updates.proofs.keys.front.Goals as goal

pub overflow_mul-number : goal.overflow_mul-number
overflow_mul-number c =
    let now = c.loop-i.invariant in
    let room = front_fits c.loop-i.i c.args.bytes.now (λ k. omega (arith, c.type_inv.bytes k)) c.loop-i-test.true in omega (arith, now, room)

pub overflow_add-number : goal.overflow_add-number
overflow_add-number c =
    let now = c.loop-i.invariant in let byte = c.from.ensures in let small = c.byte_at.type_inv in
    let room = front_fits c.loop-i.i c.args.bytes.now (λ k. omega (arith, c.type_inv.bytes k)) c.loop-i-test.true in omega (arith, now, room, byte, small)

pub loop-i-preserved : goal.loop-i-preserved
loop-i-preserved c =
    ap (λ (n : ℕ). n * 256 + c.from.result) c.loop-i.invariant
    ∙ ap (λ (b : ℕ). front c.loop-i.i c.args.bytes.now * 256 + b) (c.from.ensures ∙ c.byte_at.ensures) ∙ sym (front_more c.loop-i.i c.args.bytes.now)

pub returns-clause-octets : goal.returns-clause-octets
returns-clause-octets c = λ k. omega (arith, c.type_inv.bytes k)
