use Rattle.std.proofs.Common.{refl}
use Rattle.dns_wire.specs.Encoder.{EncoderState, state_of, CanRollBack}
use Rattle.dns_wire.proofs.ItemLaws.{can_roll_back-past}
use Rattle.dns_wire.proofs.StoredLaws.{on_err}
use Rattle.dns_messages.specs.Cut.{record_item, edns_item, listed}
use Rattle.dns_messages.specs.Emit.{extended, lent}
use Rattle.dns_messages.proofs.emit.emit_sections.Goals as goal
use Rattle.dns_messages.proofs.emit.emit_sections.Given.{Over}
use Rattle.dns_messages.proofs.emit.emit_sections.Goals.{In_ok-emit_section, In_ok-emit_section-2, In_ok-emit_section-3, In_ok-emit_edns}

-- what is refused after each section can be rolled back to before it

before_answers : (g : Over) (c : In_ok-emit_section g) (new : EncoderState) → CanRollBack (state_of c.emit_section.new.encoder) new → CanRollBack (state_of c.args.encoder.now) new
before_answers g c new back = can_roll_back-past record_item (state_of c.args.encoder.now) (state_of c.emit_section.new.encoder) new (g.A.EmitAndCount.items c.args.answers.now) c.requires.at_end (c.in_ok-emit_section.ensures.wrote refl) back

before_authorities : (g : Over) (c : In_ok-emit_section-2 g) (new : EncoderState) → CanRollBack (state_of c.emit_section-2.new.encoder) new → CanRollBack (state_of c.emit_section.new.encoder) new
before_authorities g c new back = can_roll_back-past record_item (state_of c.emit_section.new.encoder) (state_of c.emit_section-2.new.encoder) new (g.N.EmitAndCount.items c.args.authorities.now) (c.in_ok-emit_section.ensures.at_end refl) (c.in_ok-emit_section-2.ensures.wrote refl) back

before_additionals : (g : Over) (c : In_ok-emit_section-3 g) (new : EncoderState) → CanRollBack (state_of c.emit_section-3.new.encoder) new → CanRollBack (state_of c.emit_section-2.new.encoder) new
before_additionals g c new back = can_roll_back-past record_item (state_of c.emit_section-2.new.encoder) (state_of c.emit_section-3.new.encoder) new (g.D.EmitAndCount.items c.args.additionals.now) (c.in_ok-emit_section-2.ensures.at_end refl) (c.in_ok-emit_section-3.ensures.wrote refl) back

before_edns : (g : Over) (c : In_ok-emit_edns g) (new : EncoderState) → CanRollBack (state_of c.emit_edns.new.encoder) new → CanRollBack (state_of c.emit_section-3.new.encoder) new
before_edns g c new back =
    can_roll_back-past edns_item (state_of c.emit_section-3.new.encoder) (state_of c.emit_edns.new.encoder) new (listed (extended c.args.metadata.now.response_code (lent c.args.edns))) (c.in_ok-emit_section-3.ensures.at_end refl) (c.in_ok-emit_edns.ensures.wrote refl) back

pub returns-in_err-emit_section-2-clause-back : goal.returns-in_err-emit_section-2-clause-back
returns-in_err-emit_section-2-clause-back g c =
    let at = goal.at.returns-in_err-emit_section-2-clause-back g c in
    on_err _ (before_answers g at.In_ok-emit_section _ c.in_err-emit_section-2.ensures.back)

pub returns-in_err-emit_section-3-clause-back : goal.returns-in_err-emit_section-3-clause-back
returns-in_err-emit_section-3-clause-back g c =
    let at = goal.at.returns-in_err-emit_section-3-clause-back g c in
    on_err _ (before_answers g at.In_ok-emit_section _ (before_authorities g at.In_ok-emit_section-2 _ c.in_err-emit_section-3.ensures.back))

pub returns-in_err-emit_edns-clause-back : goal.returns-in_err-emit_edns-clause-back
returns-in_err-emit_edns-clause-back g c =
    let at = goal.at.returns-in_err-emit_edns-clause-back g c in
    on_err _ (before_answers g at.In_ok-emit_section _ (before_authorities g at.In_ok-emit_section-2 _ (before_additionals g at.In_ok-emit_section-3 _ c.in_err-emit_edns.ensures.back)))

pub returns-in_err-emit_signature-clause-back : goal.returns-in_err-emit_signature-clause-back
returns-in_err-emit_signature-clause-back g c =
    let at = goal.at.returns-in_err-emit_signature-clause-back g c in
    on_err _ (before_answers g at.In_ok-emit_section _ (before_authorities g at.In_ok-emit_section-2 _ (before_additionals g at.In_ok-emit_section-3 _ (before_edns g at.In_ok-emit_edns _ c.in_err-emit_signature.ensures.back))))
