use Rattle.std.proofs.Common.{◌∷◌, [], List, ℕ, subst}
use Rattle.dns_wire.specs.Encoder.{state_of}
use Rattle.dns_wire.specs.Encodable.{Plain, Emits}
use Rattle.dns_names.proofs.name.Name.emit_labels.Goals as goal

pub returns-clause-emits : goal.returns-clause-emits
returns-clause-emits c =
    subst (λ (bytes : List ℕ). Emits (state_of c.args.encoder.now) (Plain bytes ∷ []) c.emit_vec.result (state_of c.emit_vec.new.self)) c.wire.ensures.form (c.emit_vec.ensures.at_end c.requires)
