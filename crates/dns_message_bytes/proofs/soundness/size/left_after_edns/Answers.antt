use Rattle.std.proofs.Common.{refl, ap, arith}
use Rattle.std.specs.Option.{option_copied}
use Rattle.dns_message_bytes.proofs.SizeLaws.{left-after, edns-len}
use Rattle.dns_message_bytes.proofs.soundness.size.left_after_edns.Goals as goal

pub returns-in_err-left-clause-none : goal.returns-in_err-left-clause-none
returns-in_err-left-clause-none c = λ _. omega (arith, edns-len (option_copied c.args.edns) c.in-Some.edns.now (ap option_copied c.in-Some.is), c.in_err-left.ensures.none refl)

pub returns-clause-some : goal.returns-clause-some
returns-clause-some c =
    left-after c.left_after-2.result _ _ _ _ c.left_after-2.ensures.some
    (omega (arith, edns-len (option_copied c.args.edns) c.in-Some.edns.now (ap option_copied c.in-Some.is), c.in_ok-left.ensures.some, (rw c.options.ensures at c.encoded_len.ensures)))

pub returns-clause-none : goal.returns-clause-none
returns-clause-none c =
    λ none. omega (arith, edns-len (option_copied c.args.edns) c.in-Some.edns.now (ap option_copied c.in-Some.is), c.left_after-2.ensures.none none, c.in_ok-left.ensures.some, (rw c.options.ensures at c.encoded_len.ensures))
