use Rattle.std.proofs.Common.{sym}
use Rattle.dns_formats.proofs.ReadLaws.{not_missing}
use Rattle.dns_formats.proofs.read.is_missing.Goals as goal

pub returns-then-place-tokens : goal.returns-then-place-tokens
returns-then-place-tokens c = sym (not_missing c.args.field c.args.tokens.now c.args.place c.if-place-tokens.true)
