use Rattle.std.proofs.Common.{◌≡◌, ◌+◌, false, ◌∙◌, ap, sym, subst, refl, cond, ltb, Bool}
use Rattle.std.specs.Prelude.{◌&&◌}
use Rattle.dns_wire.specs.Encoder.{state_of}
use Rattle.dns_wire.specs.Name.{AreLabels}
use Rattle.dns_wire.specs.Writing.{spelling, compresses}
use Rattle.dns_wire.specs.declared.name_encoding.NameEncoding.{NameEncoding}
use Rattle.dns_names.specs.Name.{DomainName}
use Rattle.dns_names.proofs.EmitLaws.{emits_spelled, lower-are_labels}
use Rattle.dns_names.proofs.name.wire.NameBinEncodable.emit.Goals as goal

pub returns-else-begin_name-clause-emits : goal.returns-else-begin_name-clause-emits
returns-else-begin_name-clause-emits c =
    let old = state_of c.args.encoder.now in
    let encoding = sym c.name_encoding.ensures ∙ c.in-Compressed.is in
    let many : ltb old.attempts 120 ≡ false = sym c.begin_name.ensures.value ∙ c.if-begin_name.false in
    let same : state_of c.begin_name.new.self ≡ old = c.begin_name.ensures.counts ∙ ap (λ (b : Bool). record old { attempts = cond b (old.attempts + 1) old.attempts }) many in
    emits_spelled old (state_of c.begin_name.new.self) (state_of c.emit_whole.new.encoder) c.args.self.now.labels c.args.self.now.labels c.emit_whole.result same
    (ap (λ (e : NameEncoding). spelling e c.args.self.now.labels) (sym encoding))
    (ap (λ (e : NameEncoding). compresses e && ltb old.attempts 120) encoding ∙ many)
    c.emit_whole.ensures.emits

pub returns-in-Uncompressed-clause-emits : goal.returns-in-Uncompressed-clause-emits
returns-in-Uncompressed-clause-emits c =
    let old = state_of c.args.encoder.now in
    let encoding = sym c.name_encoding.ensures ∙ c.in-Uncompressed.is in
    emits_spelled old old (state_of c.emit_whole-in-Uncompressed.new.encoder) c.args.self.now.labels c.args.self.now.labels c.emit_whole-in-Uncompressed.result refl
    (ap (λ (e : NameEncoding). spelling e c.args.self.now.labels) (sym encoding))
    (ap (λ (e : NameEncoding). compresses e && ltb old.attempts 120) encoding)
    c.emit_whole-in-Uncompressed.ensures.emits

pub returns-in_ok-to_lowercase-in-UncompressedLowercase-clause-emits : goal.returns-in_ok-to_lowercase-in-UncompressedLowercase-clause-emits
returns-in_ok-to_lowercase-in-UncompressedLowercase-clause-emits c =
    let old = state_of c.args.encoder.now in
    let encoding = sym c.name_encoding.ensures ∙ c.in-UncompressedLowercase.is in
    emits_spelled old old (state_of c.emit_whole-in-UncompressedLowercase.new.encoder) c.args.self.now.labels _ c.emit_whole-in-UncompressedLowercase.result refl
    (ap (λ (n : DomainName). n.labels) c.in_ok-to_lowercase-in-UncompressedLowercase.ensures.ok ∙ ap (λ (e : NameEncoding). spelling e c.args.self.now.labels) (sym encoding))
    (ap (λ (e : NameEncoding). compresses e && ltb old.attempts 120) encoding)
    c.emit_whole-in-UncompressedLowercase.ensures.emits

pub returns-in_ok-to_lowercase-in-UncompressedLowercase-clause-writable : goal.returns-in_ok-to_lowercase-in-UncompressedLowercase-clause-writable
returns-in_ok-to_lowercase-in-UncompressedLowercase-clause-writable c =
    let are = ap (λ (n : DomainName). n.labels) c.in_ok-to_lowercase-in-UncompressedLowercase.ensures.ok in
    λ _. (lower-are_labels c.args.self.now.labels (subst AreLabels are c.emit_whole-in-UncompressedLowercase.ensures.labels), tt)
