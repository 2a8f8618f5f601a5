use Rattle.std.proofs.Common.{ℕ, List, subst}
use Rattle.std.proofs.lemmas.Result.{err_from_is_err_and}
use Rattle.dns_data.specs.Wire.{ValuesAt}
use Rattle.dns_data.proofs.RefusalLaws.{refused_here, refused_past}
use Rattle.dns_data.proofs.EarlyLaws.{read_stops, read_goes_past}
use Rattle.dns_data.proofs.fields.Tuple2Fields.read_fields.Goals as goal

pub returns-in_err-field-clause-refused : goal.returns-in_err-field-clause-refused
returns-in_err-field-clause-refused g c =
    let p = err_from_is_err_and c.from_residual.result c.from_residual.ensures.1 in
    rw (p.1, p.2) (λ other data_end. refused_here c.args.decoder.now.bytes data_end g.F.Field.kind g.R.Fields.kinds c.args.decoder.now.index _ (c.in_err-field.ensures.refused other data_end))

pub returns-in_err-rest-clause-refused : goal.returns-in_err-rest-clause-refused
returns-in_err-rest-clause-refused g c =
    let p = err_from_is_err_and c.from_residual-in_err-rest.result c.from_residual-in_err-rest.ensures.1 in
    rw (p.1, p.2) (λ other data_end. refused_past c.args.decoder.now c.read_field.new.decoder data_end g.F.Field.kind g.R.Fields.kinds _ (g.F.Field.value c.in_ok-field.field) (c.in_ok-field.ensures.read data_end) c.in_ok-field.ensures.bytes
    (c.in_err-rest.ensures.refused other data_end))

pub returns-clause-read : goal.returns-clause-read
returns-clause-read g c = λ data_end.
    let middle = c.read_field.new.decoder.index in
    let rest = subst (λ (xs : List ℕ). ValuesAt xs data_end g.R.Fields.kinds middle (g.R.Fields.values c.in_ok-rest.rest) c.read_fields.new.decoder.index) c.in_ok-field.ensures.bytes (c.in_ok-rest.ensures.read data_end) in
    (middle, c.in_ok-field.ensures.read data_end, rest)

pub returns-in_err-field-clause-early : goal.returns-in_err-field-clause-early
returns-in_err-field-clause-early g c =
    let p = err_from_is_err_and c.from_residual.result c.from_residual.ensures.1 in
    let old = c.args.decoder.now in
    rw (p.1, p.2) (λ data_end. read_stops old.bytes data_end g.F.Field.kind g.R.Fields.kinds old.index _ c.in_err-field.ensures.fixed (λ other. c.in_err-field.ensures.refused other data_end))

pub returns-in_err-rest-clause-early : goal.returns-in_err-rest-clause-early
returns-in_err-rest-clause-early g c =
    let p = err_from_is_err_and c.from_residual-in_err-rest.result c.from_residual-in_err-rest.ensures.1 in
    rw (p.1, p.2) (λ data_end.
    read_goes_past c.args.decoder.now c.read_field.new.decoder data_end g.F.Field.kind g.R.Fields.kinds (g.F.Field.value c.in_ok-field.field) (c.in_ok-field.ensures.read data_end) c.in_ok-field.ensures.bytes
    (c.in_err-rest.ensures.early data_end))

pub returns-clause-early : goal.returns-clause-early
returns-clause-early g c = λ data_end.
    read_goes_past c.args.decoder.now c.read_field.new.decoder data_end g.F.Field.kind g.R.Fields.kinds (g.F.Field.value c.in_ok-field.field) (c.in_ok-field.ensures.read data_end) c.in_ok-field.ensures.bytes
    (c.in_ok-rest.ensures.early data_end)
