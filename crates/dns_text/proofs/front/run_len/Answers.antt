use Rattle.std.proofs.Common.{◌≡◌, ◌<◌, ◌∙◌, false, length, drop, sym, ap, arith}
use Rattle.dns_text.specs.Front.{ends_run}
use Rattle.dns_text.specs.internal.Front.{run_of}
use Rattle.dns_text.proofs.FrontLaws.{slice_is, run_next}
use Rattle.dns_text.proofs.front.run_len.Goals as goal

pub loop-place-preserved : goal.loop-place-preserved
loop-place-preserved c =
    let within : c.loop-place.place < length c.args.text.now = omega arith in
    let here : ends_run (run_of c.args.run) c.loop-place.is_escaped (drop c.loop-place.place c.args.text.now) ≡ false =
    ap (ends_run (run_of c.args.run) c.loop-place.is_escaped) (sym (slice_is c.args.text.now c.loop-place.place)) ∙ sym c.is_end_of_run.ensures ∙ c.if-is_end_of_run.false in
    c.loop-place.invariant ∙ run_next (run_of c.args.run) c.loop-place.is_escaped c.escapes_next-is_escaped.result c.loop-place.place c.args.text.now within here c.escapes_next-is_escaped.ensures
