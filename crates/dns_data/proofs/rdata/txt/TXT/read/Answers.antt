use Rattle.std.proofs.Common.{ℕ, ◌+◌, [], subst}
use Rattle.std.proofs.lemmas.Result.{err_from_is_err_and}
use Rattle.dns_data.specs.Field.{Strings}
use Rattle.dns_data.specs.Wire.{StringAt, RefusesItems}
use Rattle.dns_data.proofs.RefusalLaws.{refused_here}
use Rattle.dns_data.proofs.rdata.txt.TXT.read.Goals as goal

pub returns-in_err-strings-clause-refused : goal.returns-in_err-strings-clause-refused
returns-in_err-strings-clause-refused c =
    let p = err_from_is_err_and c.from_residual.result c.from_residual.ensures.1 in
    let old = c.args.decoder.now in
    rw (p.1, p.2) (λ other.
    let refused = c.in_err-strings.ensures.refused other in
    let items = subst (λ (n : ℕ). RefusesItems (StringAt old.bytes) (old.index + n) old.index) c.from.ensures refused.1 in
    refused_here old.bytes (old.index + c.args.len) Strings [] old.index _ (refused.0, items))
