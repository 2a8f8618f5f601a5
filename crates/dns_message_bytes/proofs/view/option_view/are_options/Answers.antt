use Rattle.std.proofs.Common.{◌≡◌, [], true, false, sym, ◌∙◌}
use Rattle.dns_wire.specs.Decoder.{rest}
use Rattle.dns_message_bytes.specs.view.Request.{option_of}
use Rattle.dns_message_bytes.proofs.OptionLaws.{front-next, onward-next, no_options}
use Rattle.dns_message_bytes.proofs.view.option_view.are_options.Goals as goal

pub loop-decoder-preserved : goal.loop-decoder-preserved
loop-decoder-preserved c =
    let inv = c.loop-decoder.invariant in
    let now = rest c.loop-decoder.decoder in
    let next = rest c.read.new.decoder in
    let option = option_of c.in-Some._option in
    record {
      front = front-next c.args.bytes.now now next option inv.front c.in-Some.ensures.sound c.in-Some.ensures.read;
      onward = onward-next c.args.bytes.now now next option inv.onward c.in-Some.ensures.sound c.in-Some.ensures.read;
    }

pub returns-in_default-clause-only : goal.returns-in_default-clause-only
returns-in_default-clause-only c =
    let some : rest c.loop-decoder.decoder ≡ [] → ⊥ = (λ e. let both : true ≡ false = sym (c.is_empty.ensures.1 e) ∙ c.loop-decoder-test.true in absurd (cc)) in
    λ options all is. absurd (no_options c.args.bytes.now (rest c.loop-decoder.decoder) c.loop-decoder.invariant.onward some (c.read.ensures.none c.in_default.is) options all is)
