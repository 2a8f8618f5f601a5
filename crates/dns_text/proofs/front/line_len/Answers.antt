use Rattle.std.proofs.Common.{◌≡◌, ◌<◌, ◌∙◌, length, drop, sym, ap, arith}
use Rattle.dns_text.specs.Front.{line_end}
use Rattle.dns_text.proofs.FrontLaws.{slice_is, line_next}
use Rattle.dns_text.proofs.front.line_len.Goals as goal

pub loop-place-preserved : goal.loop-place-preserved
loop-place-preserved c =
    let within : c.loop-place.place < length c.args.text.now = omega arith in
    let none : c.line_ending.result ≡ 0 = omega arith in
    let here : line_end (drop c.loop-place.place c.args.text.now) ≡ 0 = ap line_end (sym (slice_is c.args.text.now c.loop-place.place)) ∙ sym c.line_ending.ensures.value ∙ none in
    c.loop-place.invariant ∙ line_next c.loop-place.place c.args.text.now within here
