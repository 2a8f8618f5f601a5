use Rattle.std.proofs.Common.{List, [], ◌∷◌}
use Rattle.std.specs.Int.{w16, to_be_bytes}
use Rattle.std.proofs.lemmas.Result.{err_from_is_err_and}
use Rattle.dns_wire.specs.Encoder.{state_of}
use Rattle.dns_wire.specs.Encodable.{Piece, Plain, Domain}
use Rattle.dns_wire.specs.codes.RecordType.{type_number}
use Rattle.dns_wire.specs.codes.DNSClass.{class_number}
use Rattle.dns_wire.proofs.PieceLaws.{emits_stop}
use Rattle.dns_records.proofs.Steps.{then_emits}
use Rattle.dns_messages.proofs.query.QueryBinEncodable.emit.Goals as goal

pub returns-in_err-emit_u16-clause-emits : goal.returns-in_err-emit_u16-clause-emits
returns-in_err-emit_u16-clause-emits c =
    let p = err_from_is_err_and c.from_residual-in_err-emit_u16.result c.from_residual-in_err-emit_u16.ensures.1 in
    let old = state_of c.args.encoder.now in
    let q = c.args.self.now in
    let name : List Piece = Domain q.name.labels ∷ [] in
    let kind : List Piece = Plain (to_be_bytes w16 (type_number q.query_type)) ∷ [] in
    let class : List Piece = Plain (to_be_bytes w16 (class_number q.query_class)) ∷ [] in
    rw (p.1, p.2) (emits_stop old (state_of c.emit_u16.new.self) (Domain q.name.labels ∷ kind) class _ (then_emits old (state_of c.emit.new.encoder) (state_of c.emit_u16.new.self) name kind _ c.requires c.in_ok-emit.ensures.emits (rw (← c.from.ensures) c.in_err-emit_u16.ensures.at_end)))

pub returns-clause-emits : goal.returns-clause-emits
returns-clause-emits c =
    let old = state_of c.args.encoder.now in
    let q = c.args.self.now in
    let name : List Piece = Domain q.name.labels ∷ [] in
    let kind : List Piece = Plain (to_be_bytes w16 (type_number q.query_type)) ∷ [] in
    let class : List Piece = Plain (to_be_bytes w16 (class_number q.query_class)) ∷ [] in
    let two = then_emits old (state_of c.emit.new.encoder) (state_of c.emit_u16.new.self) name kind _ c.requires c.in_ok-emit.ensures.emits (rw (← c.from.ensures) c.in_ok-emit_u16.ensures.at_end) in
    then_emits old (state_of c.emit_u16.new.self) (state_of c.emit_u16-2.new.self) (Domain q.name.labels ∷ kind) class _ c.requires two (rw (← c.from-2.ensures) c.emit_u16-2.ensures.at_end)
