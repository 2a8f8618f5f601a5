use Rattle.std.proofs.Common.{List, subst}
use Rattle.dns_wire.specs.declared.codes.record_type.RecordType.{RecordType}
use Rattle.dns_wire.specs.declared.codes.dns_class.DNSClass.TheVariants.{IN}
use Rattle.dns_wire.specs.Encoder.{state_of}
use Rattle.dns_wire.specs.Encodable.{Piece, Position, position_of, Emits}
use Rattle.dns_data.specs.rdata.{data_type, data_pieces}
use Rattle.dns_records.specs.Emit.{pieces_behind_owner}
use Rattle.dns_records.proofs.Steps.{owner_then}
use Rattle.dns_zone.specs.Section.{borrowed_record}
use Rattle.dns_zone.proofs.zone.section.RowRefBinEncodable.emit.Goals as goal

pub returns-clause-emits : goal.returns-clause-emits
returns-clause-emits c =
    let mid = state_of c.emit.new.encoder in
    let new = state_of c.emit_behind_owner.new.encoder in
    let r = borrowed_record c.args.self.now in
    let ds : Position → List Piece = λ s. data_pieces s.canonical r.rdata in
    owner_then (state_of c.args.encoder.now) mid new r.name.labels (data_type r.rdata) IN r.ttl ds _ c.requires c.in_ok-emit.ensures.emits (λ end. subst (λ (kind : RecordType). Emits mid (pieces_behind_owner (position_of mid) kind IN r.ttl ds) c.emit_behind_owner.result new) c.record_type-kind.ensures c.emit_behind_owner.ensures.emits)
