use Rattle.std.proofs.Common.{ℕ, ap, ◌∙◌}
use Rattle.std.proofs.lemmas.Result.{IfOk-weaker}
use Rattle.zone_lines.specs.Skip.{Resumes, SkipsContinuation, lines_after}
use Rattle.zone_lines.specs.declared.skip.Section.{Section}
use Rattle.zone_lines.proofs.SkipLaws.{resumes_here, resumes_past}
use Rattle.zone_lines.proofs.skip.section_after.Goals as goal

pub returns-then-not-opens_list-clause-ok : goal.returns-then-not-opens_list-clause-ok
returns-then-not-opens_list-clause-ok c =
    resumes_here c.args.section.base c.args.section.text.now c.args.entry c.args.fault_line c.taken_lines-count.result c.in_ok-add_lines.field-0
    c.text_after.result.now c.split_line.result.0.now c.text_after-2.result.now c.taken_lines-count.ensures.value c.in_ok-add_lines.ensures
    c.text_after.ensures.value (c.text_after-2.ensures.value ∙ ap (λ (n : ℕ). lines_after n c.args.section.text.now) c.saturating_sub.ensures)
    c.split_line.ensures.first c.if-not-opens_list.ensures

pub returns-clause-ok : goal.returns-clause-ok
returns-clause-ok c =
    IfOk-weaker c.skip_continuation.result
    (λ (next : Section). SkipsContinuation c.in_ok-add_lines.field-0 c.text_after.result.now next.base next.text.now)
    (λ (next : Section). Resumes c.args.section.base c.args.section.text.now c.args.entry c.args.fault_line next.base next.text.now)
    (λ next skips.
    resumes_past c.args.section.base c.args.section.text.now c.args.entry c.args.fault_line c.taken_lines-count.result c.in_ok-add_lines.field-0
    c.text_after.result.now c.split_line.result.0.now c.text_after-2.result.now c.taken_lines-count.ensures.value c.in_ok-add_lines.ensures
    c.text_after.ensures.value (c.text_after-2.ensures.value ∙ ap (λ (n : ℕ). lines_after n c.args.section.text.now) c.saturating_sub.ensures)
    c.split_line.ensures.first c.if-not-opens_list.ensures next.base next.text.now skips)
    c.skip_continuation.ensures.ok
