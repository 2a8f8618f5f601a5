use Rattle.std.proofs.Common.{sym, ◌∙◌}
use Rattle.dns_formats.proofs.ReadLaws.{value_ok, value_err, no_memory}
use Rattle.dns_formats.proofs.read.push_field.Goals as goal

pub returns-in-Ok-push_value-clause-bytes : goal.returns-in-Ok-push_value-clause-bytes
returns-in-Ok-push_value-clause-bytes c =
    value_ok _ c.args.field c.args.tokens.now c.args.place _ c.args.out.now.items _ (sym c.takes_rest.ensures ∙ c.if-takes_rest.false) c.requires.present c.in-Ok-push_value.ensures

pub returns-in-Err-push_value-clause-bytes : goal.returns-in-Err-push_value-clause-bytes
returns-in-Err-push_value-clause-bytes c = λ other.
    let is = c.at-in-Err-push_value.ensures in
    value_err _ c.args.field c.args.tokens.now c.args.place _ _ _ (sym c.takes_rest.ensures ∙ c.if-takes_rest.false) c.requires.present is
    (c.in-Err-push_value.ensures (no_memory c.args.place _ _ is other))
