use Rattle.std.proofs.Common.{get_or, arith, inl, inr}
use Rattle.dns_names.proofs.RunLaws.{byte_there, unknown_at}
use Rattle.dns_names.proofs.name.wire.read_target.Goals as goal

pub returns-then-code-lt192-clause-shows : goal.returns-then-code-lt192-clause-shows
returns-then-code-lt192-clause-shows c =
    let code = get_or c.args.bytes.now c.args.place 0 in
    let here = byte_there c.args.bytes.now c.args.place (omega (arith, c.requires.within, c.if-place-bytes.false)) in
    elim (c.requires.ends code here) [
      | inl zero ↦ absurd (omega (arith, zero, c.if-code-eq0.false))
      | inr low ↦ unknown_at c.args.bytes.now c.args.place code here low c.if-code-lt192.true
    ]
