use Rattle.std.proofs.Common.{Bool, true, refl, subst}
use Rattle.std.proofs.lemmas.Result.{err_from_is_err_and}
use Rattle.dns_wire.specs.Encoder.{state_of}
use Rattle.dns_wire.specs.Encodable.{Emits, AreWritable}
use Rattle.dns_wire.proofs.PieceLaws.{emits_stop, writable-append}
use Rattle.dns_data.specs.Field.{value_pieces, values_pieces}
use Rattle.dns_data.proofs.EmissionLaws.{emits_end, then_emits, same_form}
use Rattle.dns_data.proofs.fields.Tuple2WriteFields.emit_fields.Goals as goal

pub emit_fields-requires : goal.emit_fields-requires
emit_fields-requires g c =
    let old = state_of c.args.encoder.now in
    emits_end old (state_of c.emit_field.new.encoder) (value_pieces old.canonical g.F.WriteField.kind (g.F.WriteField.value c.args.self.now.0)) c.requires c.in_ok-emit_field.ensures.emits

pub returns-in_err-emit_field-clause-emits : goal.returns-in_err-emit_field-clause-emits
returns-in_err-emit_field-clause-emits g c =
    let p = err_from_is_err_and c.from_residual.result c.from_residual.ensures.1 in
    let old = state_of c.args.encoder.now in
    let fields = c.args.self.now in
    rw (p.1, p.2) (emits_stop old (state_of c.emit_field.new.encoder) (value_pieces old.canonical g.F.WriteField.kind (g.F.WriteField.value fields.0)) (values_pieces old.canonical g.R.WriteFields.kinds (g.R.WriteFields.values fields.1)) _
    c.in_err-emit_field.ensures.emits)

pub returns-clause-emits : goal.returns-clause-emits
returns-clause-emits g c =
    let old = state_of c.args.encoder.now in
    let mid = state_of c.emit_field.new.encoder in
    let new = state_of c.emit_fields.new.encoder in
    let fields = c.args.self.now in
    let first = value_pieces old.canonical g.F.WriteField.kind (g.F.WriteField.value fields.0) in
    let same = same_form old mid first c.in_ok-emit_field.ensures.emits in
    then_emits old mid new first (values_pieces old.canonical g.R.WriteFields.kinds (g.R.WriteFields.values fields.1)) _ c.requires c.in_ok-emit_field.ensures.emits
    (λ end. subst (λ (f : Bool). Emits mid (values_pieces f g.R.WriteFields.kinds (g.R.WriteFields.values fields.1)) c.emit_fields.result new) same c.emit_fields.ensures.emits)

pub returns-clause-writable : goal.returns-clause-writable
returns-clause-writable g c = λ ok.
    let old = state_of c.args.encoder.now in
    let fields = c.args.self.now in
    let first = value_pieces old.canonical g.F.WriteField.kind (g.F.WriteField.value fields.0) in
    let same = same_form old (state_of c.emit_field.new.encoder) first c.in_ok-emit_field.ensures.emits in
    writable-append first (values_pieces old.canonical g.R.WriteFields.kinds (g.R.WriteFields.values fields.1)) (c.in_ok-emit_field.ensures.writable (refl {a = true}))
    (subst (λ (f : Bool). AreWritable (values_pieces f g.R.WriteFields.kinds (g.R.WriteFields.values fields.1))) same (c.emit_fields.ensures.writable ok))
