use Rattle.std.proofs.Common.{ap, ◌∙◌}
use Rattle.std.proofs.lemmas.Result.{err_from_is_err_and}
use Rattle.dns_zone_file.specs.internal.Context.{saved_of, restored}
use Rattle.dns_zone_file.specs.declared.context.SavedContext.{SavedContext}
use Rattle.dns_zone_file.proofs.StepLaws.{after_entry, include_refused, enters_text, included_refused, after_included}
use Rattle.dns_zone_file.proofs.parser.+parse_text.Goals as goal

pub entries-preserved-in-Applied : goal.entries-preserved-in-Applied
entries-preserved-in-Applied t c =
    let step = rw c.in-Applied.is at c.in_ok-take_step.ensures.ok in
    after_entry c.entries.invariant step.0

pub returns-in_err-included-in-Includes-clause-refused : goal.returns-in_err-included-in-Includes-clause-refused
returns-in_err-included-in-Includes-clause-refused t c =
    let p = err_from_is_err_and c.from_residual-in_err-included-in-Includes.result c.from_residual-in_err-included-in-Includes.ensures.1 in
    let step = rw c.in-Includes.is at c.in_ok-take_step.ensures.ok in
    rw (p.1, p.2) (λ _.
    include_refused c.in-Includes.line c.in_err-included-in-Includes.field-0.0 c.entries.invariant step.0 step.1 c.in_err-included-in-Includes.ensures.refused)

pub returns-in_err-parse_text-in-Includes-clause-refused : goal.returns-in_err-parse_text-in-Includes-clause-refused
returns-in_err-parse_text-in-Includes-clause-refused t c =
    let p = err_from_is_err_and c.from_residual-in_err-parse_text-in-Includes.result c.from_residual-in_err-parse_text-in-Includes.ensures.1 in
    let step = rw c.in-Includes.is at c.in_ok-take_step.ensures.ok in
    rw (p.1, p.2) (λ other.
    included_refused c.in_err-parse_text-in-Includes.field-0.0 c.entries.invariant step.0
    (enters_text step.2 c.in_ok-included-in-Includes.ensures.depth c.in_ok-included-in-Includes.ensures.ok c.in_ok-saved-in-Includes.ensures.ok)
    (c.in_err-parse_text-in-Includes.ensures.refused other))

pub entries-preserved : goal.entries-preserved
entries-preserved t c =
    let step = rw c.in-Includes.is at c.in_ok-take_step.ensures.ok in
    after_included c.entries.invariant step.0
    (enters_text step.2 c.in_ok-included-in-Includes.ensures.depth c.in_ok-included-in-Includes.ensures.ok c.in_ok-saved-in-Includes.ensures.ok)
    c.in_ok-parse_text-in-Includes.ensures.ok
    (c.resume.ensures ∙ ap (λ (saved : SavedContext). restored saved c.parse_text.new.context) (c.in_ok-saved-in-Includes.ensures.saved ∙ ap saved_of step.2))
