use Rattle.std.proofs.Common.{refl, arith}
use Rattle.dns_message_bytes.proofs.SizeLaws.{left-after, record-len}
use Rattle.dns_message_bytes.proofs.soundness.size.left_after_record.Goals as goal

pub returns-in_err-left-clause-none : goal.returns-in_err-left-clause-none
returns-in_err-left-clause-none c =
    λ _. omega (arith, record-len c.args.resource_record.now, c.in_err-left.ensures.none refl, c.encoded_len.ensures.value)

pub returns-clause-some : goal.returns-clause-some
returns-clause-some c =
    left-after c.left_after-2.result _ _ _ _ c.left_after-2.ensures.some
    (omega (arith, record-len c.args.resource_record.now, c.in_ok-left.ensures.some, c.encoded_len.ensures.value, c.encoded_len-2.ensures))

pub returns-clause-none : goal.returns-clause-none
returns-clause-none c =
    λ none. omega (
      arith,
      record-len c.args.resource_record.now,
      c.left_after-2.ensures.none none,
      c.in_ok-left.ensures.some,
      c.encoded_len.ensures.value,
      c.encoded_len-2.ensures,
    )
