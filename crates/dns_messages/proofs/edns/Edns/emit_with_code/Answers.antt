use Rattle.std.proofs.Common.{ℕ, List, [], subst}
use Rattle.dns_wire.specs.declared.codes.record_type.RecordType.TheVariants as types
use Rattle.dns_wire.specs.declared.codes.dns_class.DNSClass.TheVariants as classes
use Rattle.dns_wire.specs.Encoder.{state_of}
use Rattle.dns_wire.specs.Encodable.{Piece, Position, position_of, Emits}
use Rattle.dns_data.specs.Field.{values_pieces}
use Rattle.dns_data.specs.rdata.OPT.{opt_kinds, opt_values}
use Rattle.dns_records.specs.Emit.{pieces_behind_owner}
use Rattle.dns_records.proofs.Steps.{owner_then}
use Rattle.dns_messages.specs.Edns.{edns_ttl}
use Rattle.dns_messages.proofs.edns.Edns.emit_with_code.Goals as goal

pub returns-clause-emits : goal.returns-clause-emits
returns-clause-emits c =
    let old = state_of c.args.encoder.now in
    let e = c.args.self.now in
    let ds : Position → List Piece = λ s. values_pieces s.canonical opt_kinds (opt_values e.options) in
    owner_then old (state_of c.emit_root.new.encoder) (state_of c.emit_behind_owner.new.encoder) [] types.OPT (classes.OPT e.max_payload) (edns_ttl (record e { rcode_high = c.args.rcode_high })) ds _ c.requires c.in_ok-emit_root.ensures (λ end. subst (λ (ttl : ℕ). Emits (state_of c.emit_root.new.encoder) (pieces_behind_owner (position_of (state_of c.emit_root.new.encoder)) types.OPT (classes.OPT e.max_payload) ttl ds) c.emit_behind_owner.result (state_of c.emit_behind_owner.new.encoder)) c.ttl_of-ttl.ensures c.emit_behind_owner.ensures.emits)
