use Rattle.std.proofs.lemmas.Result.{err_from_is_err_and}
use Rattle.std.proofs.Common.{◌∷◌, []}
use Rattle.dns_wire.specs.Encoder.{state_of}
use Rattle.dns_wire.specs.Encodable.{Plain}
use Rattle.dns_wire.proofs.PieceLaws.{emits_stop}
use Rattle.dns_names.specs.internal.Wire.{labels_pieces}
use Rattle.dns_names.proofs.EmitLaws.{still_at_end, closes}
use Rattle.dns_names.proofs.name.Name.emit_whole.Goals as goal

pub returns-in_err-emit_labels-clause-emits : goal.returns-in_err-emit_labels-clause-emits
returns-in_err-emit_labels-clause-emits c =
    let p = err_from_is_err_and c.from_residual.result c.from_residual.ensures.1 in
    rw (p.1, p.2) (emits_stop (state_of c.args.encoder.now) (state_of c.emit_labels.new.encoder) (labels_pieces c.args.self.now.labels) (Plain (0 ∷ []) ∷ []) _ c.in_err-emit_labels.ensures.emits)

pub returns-clause-emits : goal.returns-clause-emits
returns-clause-emits c =
    let before = c.in_ok-emit_labels.ensures.emits in
    closes (state_of c.args.encoder.now) (state_of c.emit_labels.new.encoder) (state_of c.emit_u8.new.self) c.args.self.now.labels c.emit_u8.result c.requires before
    (c.emit_u8.ensures.at_end (still_at_end (state_of c.args.encoder.now) (state_of c.emit_labels.new.encoder) (labels_pieces c.args.self.now.labels) c.requires before))
