use Rattle.std.proofs.Common.{get_or, arith}
use Rattle.dns_names.proofs.RunLaws.{byte_there, label_is}
use Rattle.dns_names.proofs.name.wire.label_end.Goals as goal

pub returns-clause-label : goal.returns-clause-label
returns-clause-label c =
    let code = get_or c.args.bytes.now c.args.place 0 in
    let here = byte_there c.args.bytes.now c.args.place (omega (arith, c.requires, c.if-place-bytes.false)) in
    label_is c.args.bytes.now c.args.place code here (omega (arith, c.if-end-bytes.false)) (omega (arith, c.if-len-eq0.false)) (omega (arith, c.if-len-ge64.false))
