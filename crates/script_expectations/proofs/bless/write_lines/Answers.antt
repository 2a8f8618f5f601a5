use Rattle.std.proofs.Common.{◌≡◌, ◌∙◌, true, false, arith, drop, sym, take, ap}
use Rattle.script_expectations.specs.Line.{is_event, is_expectation, texts}
use Rattle.script_expectations.specs.Printed.{event_len}
use Rattle.script_expectations.proofs.BlessLaws.{event_is_written, expectation_is_left_out, other_is_written}
use Rattle.script_expectations.proofs.LineLaws.{text_at}
use Rattle.script_expectations.proofs.bless.write_lines.Goals as goal

pub loop-line-preserved-then-is_event : goal.loop-line-preserved-then-is_event
loop-line-preserved-then-is_event g c =
    let script = c.args.script.now in
    let printed = c.args.printed.now in
    let i = c.loop-line.line-index in
    let done = c.loop-line.done in
    let n = c.event_len-len.result in
    let is : is_event (text_at script i) ≡ true = sym c.is_event.ensures ∙ c.if-is_event.true in
    let len : n ≡ event_len (texts (drop done printed)) = c.event_len-len.ensures.len ∙ ap (λ ls. event_len (texts ls)) c.split_at-rest.ensures.back in
    let front : c.split_at-shown.result.0.now ≡ take n (drop done printed) =
    c.split_at-shown.ensures.front ∙ ap (λ ls. take n ls) c.split_at-rest.ensures.back in (
      omega arith,
      event_is_written script printed c.split_at-shown.result.0.now i done n (g.W.Write.contents c.args.writer.now) (g.W.Write.contents c.loop-line.writer)
          (g.W.Write.contents c.write_event.new.writer) _ c.loop-line-test.true is len front c.loop-line.invariant.1 c.in_ok-write_event.ensures,
    )

pub loop-line-preserved-then-is_expectation : goal.loop-line-preserved-then-is_expectation
loop-line-preserved-then-is_expectation g c =
    let script = c.args.script.now in
    let i = c.loop-line.line-index in
    let is : is_event (text_at script i) ≡ false = sym c.is_event.ensures ∙ c.if-is_event.false in
    let expects : is_expectation (text_at script i) ≡ true = sym c.is_expectation.ensures ∙ c.if-is_expectation.true in (
      c.loop-line.invariant.0,
      expectation_is_left_out script (texts (drop c.loop-line.done c.args.printed.now)) i (g.W.Write.contents c.args.writer.now)
          (g.W.Write.contents c.loop-line.writer) _ c.loop-line-test.true is expects c.loop-line.invariant.1,
    )

pub loop-line-preserved : goal.loop-line-preserved
loop-line-preserved g c =
    let script = c.args.script.now in
    let i = c.loop-line.line-index in
    let is : is_event (text_at script i) ≡ false = sym c.is_event.ensures ∙ c.if-is_event.false in
    let expects : is_expectation (text_at script i) ≡ false = sym c.is_expectation.ensures ∙ c.if-is_expectation.false in (
      c.loop-line.invariant.0,
      other_is_written script (texts (drop c.loop-line.done c.args.printed.now)) i (g.W.Write.contents c.args.writer.now)
          (g.W.Write.contents c.loop-line.writer) (g.W.Write.contents c.write_line.new.writer) _ c.loop-line-test.true is expects c.loop-line.invariant.1
          c.in_ok-write_line.ensures,
    )
