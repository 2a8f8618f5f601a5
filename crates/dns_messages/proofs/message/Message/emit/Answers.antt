use Rattle.std.proofs.Common.{ap, subst, ◌∙◌}
use Rattle.dns_wire.specs.Encoder.{state_of}
use Rattle.dns_messages.specs.declared.message.Message.{Message}
use Rattle.dns_messages.specs.Cut.{cut, cut_form}
use Rattle.dns_messages.specs.Grammar.{ReadsMessage}
use Rattle.dns_messages.specs.Sound.{IsSound}
use Rattle.dns_messages.proofs.EmitLaws.{message-same}
use Rattle.dns_messages.proofs.message.Message.emit.Goals as goal

pub returns-clause-bytes : goal.returns-clause-bytes
returns-clause-bytes c =
    let m : Message = c.args.self.now in
    let same = message-same m c.as_slice-queries.result.now c.as_slice-answers.result.now c.as_slice-authorities.result.now c.as_slice-additionals.result.now _ _ c.as_slice-queries.ensures c.as_slice-answers.ensures c.as_slice-authorities.ensures c.as_slice-additionals.ensures c.as_ref.ensures.value c.as_ref-2.ensures.value in
    c.in_ok-emit_message_parts.ensures.bytes ∙ ap (cut_form (state_of c.args.encoder.now).limit) same

pub returns-clause-decodes : goal.returns-clause-decodes
returns-clause-decodes c =
    let m : Message = c.args.self.now in
    let same = message-same m c.as_slice-queries.result.now c.as_slice-answers.result.now c.as_slice-authorities.result.now c.as_slice-additionals.result.now _ _ c.as_slice-queries.ensures c.as_slice-answers.ensures c.as_slice-authorities.ensures c.as_slice-additionals.ensures c.as_ref.ensures.value c.as_ref-2.ensures.value in
    subst (λ (x : Message). IsSound x → ReadsMessage (state_of c.emit_message_parts.new.encoder).bytes (cut (state_of c.args.encoder.now).limit x)) same c.in_ok-emit_message_parts.ensures.decodes
