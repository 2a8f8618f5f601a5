use Rattle.std.proofs.Common.{◌≤◌, IsTrue, false, length, refl, arith}
use Rattle.std.proofs.lemmas.Bool.Decides.{nat_tests}
use Rattle.dns_durable.proofs.OpeningLaws.{begins_with_digest, digest_and_rest}
use Rattle.dns_durable.proofs.recovery.opening.behind.Goals as goal

pub returns-then-is_same-clause-found : goal.returns-then-is_same-clause-found
returns-then-is_same-clause-found c =
    let long : 32 ≤ length c.args.bytes.now = grind (arith, nat_tests, c.if-bytes-lt32.false) in
    digest_and_rest c.args.bytes.now c.args.digest.now long (c.if-is_same.ensures.0 refl)

pub returns-else-is_same-clause-none : goal.returns-else-is_same-clause-none
returns-else-is_same-clause-none c =
    λ _ rest is. let never : IsTrue false = c.if-is_same.ensures.1 (begins_with_digest c.args.bytes.now c.args.digest.now rest c.requires is) in cc
