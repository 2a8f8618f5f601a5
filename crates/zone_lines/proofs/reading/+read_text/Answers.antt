use Rattle.std.proofs.Common.{◌∙◌, ℕ, ap}
use Rattle.dns_text.specs.Lexer.{start_with}
use Rattle.dns_text.specs.declared.quotes.Quotes.{Quotes}
use Rattle.dns_zone_file.specs.internal.Context.{restored}
use Rattle.dns_zone_file.specs.declared.context.SavedContext.{SavedContext}
use Rattle.zone_lines.specs.Reading.{stated_origin, text_fault}
use Rattle.zone_lines.proofs.ReadingLaws.{applied, breaks_less, breaks_some, ends, found_all, found_deep, found_one, goes_past, read_included}
use Rattle.zone_lines.proofs.reading.+read_text.Goals as goal

pub returns-in-Ended : goal.returns-in-Ended
returns-in-Ended t c =
    let step = rw c.in-Ended.is at c.in_ok-take_step.ensures in
    ends c.entries.invariant.1 c.take_step.new.context step.0 step.1

pub entries-preserved-in-Applied : goal.entries-preserved-in-Applied
entries-preserved-in-Applied t c =
    let step = rw c.in-Applied.is at c.in_ok-take_step.ensures in
    (c.entries.invariant.0, applied c.entries.invariant.1 c.entries.rest.source c.entries.invariant.0 step)

pub entries-preserved-in-Continue-branch-3 : goal.entries-preserved-in-Continue-branch-3
entries-preserved-in-Continue-branch-3 t c =
    let step = rw c.in-Found.is at c.in_ok-take_step.ensures in (
      c.entries.invariant.0,
      found_one c.entries.invariant.1 c.entries.rest.source c.entries.invariant.0 c.in-Found.entry c.push.new.self.items step c.in_ok-push-in-Found.ensures.items,
    )

pub entries-preserved-in-Generated : goal.entries-preserved-in-Generated
entries-preserved-in-Generated t c =
    let step = rw c.in-Generated.is at c.in_ok-take_step.ensures in (
      c.entries.invariant.0,
      found_all c.entries.invariant.1 c.entries.rest.source c.entries.invariant.0 c.in-Generated.entries c.append.new.self.items step
          c.in_ok-append-in-Generated.ensures.items,
    )

pub entries-preserved-in-Includes : goal.entries-preserved-in-Includes
entries-preserved-in-Includes t c =
    let step = rw c.in-Includes.is at c.in_ok-take_step.ensures in (
      c.entries.invariant.0,
      read_included c.entries.invariant.1 c.entries.rest.source c.entries.invariant.0 c.in-Includes.included c.in-Includes.origin
          c.in_ok-entries-in-Includes.entries.items c.append-in-Includes.new.self.items step c.in_ok-saved-in-Includes.ensures.ok c.in_ok-entries-in-Includes.ensures
          (c.resume.ensures ∙ ap (λ (saved : SavedContext). restored saved c.read_text.new.context) c.in_ok-saved-in-Includes.ensures.saved)
          c.in_ok-append-in-Includes.ensures.items,
    )

pub entries-preserved-in-Continue-branch-8 : goal.entries-preserved-in-Continue-branch-8
entries-preserved-in-Continue-branch-8 t c =
    let step = rw c.in-Closes.is at c.in_ok-take_step.ensures in (
      c.entries.invariant.0,
      found_deep c.entries.invariant.1 c.entries.rest.source c.entries.invariant.0 c.in-Closes.fault c.push-in-Closes.new.self.items step
          c.in_ok-push-in-Closes.ensures.items,
    )

pub entries-smaller : goal.entries-smaller
entries-smaller t c =
    let step = rw c.in-Breaks.is at c.in_ok-take_step.ensures in
    breaks_less c.entries.invariant.1 step.0 c.in_ok-rest-in-Breaks.rest.text.now c.with_quotes-lexer-in-Breaks.result _
    c.with_quotes-lexer-in-Breaks.ensures c.in_ok-rest-in-Breaks.ensures.shorter

pub entries-preserved : goal.entries-preserved
entries-preserved t c =
    let step = rw c.in-Breaks.is at c.in_ok-take_step.ensures in (
      c.in_ok-rest-in-Breaks.ensures.same ∙ c.entries.invariant.0,
      goes_past c.entries.invariant.1 step.0 c.take_step.new.context c.in-Breaks.entry c.line-line.result c.in_ok-rest-in-Breaks.rest.base
          c.in_ok-rest-in-Breaks.rest.text.now c.with_quotes-lexer-in-Breaks.result c.in_ok-fault-in-Breaks.fault c.push-in-Breaks.new.self.items
          step.2 step.1 c.line-line.ensures c.in_ok-rest-in-Breaks.ensures.ok (c.in_ok-rest-in-Breaks.ensures.shorter (breaks_some c.entries.invariant.1 step.0))
          (c.in_ok-fault-in-Breaks.ensures ∙ ap (λ (n : ℕ). text_fault n c.entries.rest.base (stated_origin c.take_step.new.context) c.in-Breaks.error)
          c.entries.invariant.0)
          c.in_ok-push-in-Breaks.ensures.items
          (c.with_quotes-lexer-in-Breaks.ensures ∙ ap (λ (q : Quotes). start_with q c.in_ok-rest-in-Breaks.rest.text.now) c.quotes-in-Breaks.ensures),
    )
