use Rattle.std.proofs.Common.{◌≡◌, ◌∙◌, ℕ, [], ◌∷◌, List, ap, subst, sym}
use Rattle.dns_wire.specs.declared.name_encoding.NameEncoding.{NameEncoding}
use Rattle.dns_wire.specs.Encoder.{EncoderState, state_of}
use Rattle.dns_wire.specs.Encodable.{Domain, name_piece, Emits}
use Rattle.dns_wire.specs.NameEncoding.{rdata_mode}
use Rattle.dns_wire.proofs.PieceLaws.{emits_name_piece, name_piece-writable}
use Rattle.dns_names.proofs.name.Name.emit_with_behavior.Goals as goal

pub returns-clause-emits : goal.returns-clause-emits
returns-clause-emits c =
    let old : EncoderState = state_of c.args.encoder.now in
    let labels : List (List ℕ) = c.args.self.now.labels in
    let required : state_of c.set_name_encoding.new.self ≡ record old { encoding = rdata_mode c.args.behavior old.canonical old.encoding } =
    c.set_name_encoding.ensures ∙ ap (λ (e : NameEncoding). record old { encoding = e }) c.rdata_name_encoding-required.ensures in
    let emitted = subst (λ (w : EncoderState). Emits w (Domain labels ∷ []) c.emit-result.result (state_of c.emit-result.new.encoder)) required c.emit-result.ensures.emits in
    let restored : state_of c.set_name_encoding-2.new.self ≡ record (state_of c.emit-result.new.encoder) { encoding = old.encoding } =
    c.set_name_encoding-2.ensures ∙ ap (λ (e : NameEncoding). record (state_of c.emit-result.new.encoder) { encoding = e }) c.name_encoding-previous.ensures in
    subst (Emits old (name_piece c.args.behavior old.canonical labels ∷ []) c.emit-result.result) (sym restored) (emits_name_piece old (state_of c.emit-result.new.encoder) c.args.behavior labels c.emit-result.result emitted)

pub returns-clause-writable : goal.returns-clause-writable
returns-clause-writable c =
    λ ok. (name_piece-writable c.args.behavior (state_of c.args.encoder.now).canonical c.args.self.now.labels (c.emit-result.ensures.writable ok).0, tt)
