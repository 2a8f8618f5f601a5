use Rattle.std.proofs.Common.{◌≡◌, true, false, arith}
use Rattle.dns_names.proofs.name.Name.from_v4.Goals as goal

-- four labels of at most three octets, and those of the zone, are stored inline

pub returns-in_err-push_decimal-clause-inline : goal.returns-in_err-push_decimal-clause-inline
returns-in_err-push_decimal-clause-inline c =
    let inv = c.loop-index.invariant in
    let clash : false ≡ true = c.in_err-push_decimal.ensures.inline (omega (arith, inv.few)) (omega (arith, inv.short)) in
    absurd (cc)

pub returns-in_err-push_short-clause-inline : goal.returns-in_err-push_short-clause-inline
returns-in_err-push_short-clause-inline c =
    let inv = c.loop-index.invariant in
    let clash : false ≡ true = c.in_err-push_short.ensures.inline (omega (arith, inv.few)) (omega (arith, inv.short)) in
    absurd (cc)

pub returns-in_err-push_short-2-clause-inline : goal.returns-in_err-push_short-2-clause-inline
returns-in_err-push_short-2-clause-inline c =
    let inv = c.loop-index.invariant in
    let count = c.in_ok-push_short.ensures.count in
    let len = c.in_ok-push_short.ensures.len in
    let clash : false ≡ true = c.in_err-push_short-2.ensures.inline (omega (arith, inv.few, count)) (omega (arith, inv.short, count, len)) in
    absurd (cc)
