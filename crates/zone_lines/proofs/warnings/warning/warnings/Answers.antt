use Rattle.std.proofs.Common.{◌∙◌, ◌++◌, ap, sym}
use Rattle.zone_lines.specs.declared.record_line.EntryLine.{EntryLine}
use Rattle.zone_lines.specs.warnings.Survey.{facts_view}
use Rattle.zone_lines.specs.warnings.Warning.{warnings_of_entry}
use Rattle.zone_lines.proofs.KindLaws.{entry_pushed, fault_passed}
use Rattle.zone_lines.proofs.warnings.warning.warnings.Goals as goal

pub loop-place-preserved-in-Fault : goal.loop-place-preserved-in-Fault
loop-place-preserved-in-Fault c =
    fault_passed (facts_view c.args.facts.now) c.args.entries.now c.loop-place.place c.index-entries-place.result c.loop-place-test.true
    c.index-entries-place.is c.loop-place.found.items c.loop-place.invariant
    (ap (λ (e : EntryLine). warnings_of_entry (facts_view c.args.facts.now) c.args.entries.now c.loop-place.place e) c.in-Fault.is)

pub loop-place-preserved : goal.loop-place-preserved
loop-place-preserved c =
    entry_pushed (facts_view c.args.facts.now) c.args.entries.now c.loop-place.place c.index-entries-place.result c.loop-place-test.true
    c.index-entries-place.is c.loop-place.found.items c.loop-place.invariant c.push_warnings.new.found.items
    (c.in_ok-push_warnings-in-Record.ensures c.args.entries.now c.in_ok-survey.ensures
    ∙ ap (λ (e : EntryLine). c.loop-place.found.items ++ warnings_of_entry (facts_view c.args.facts.now) c.args.entries.now c.loop-place.place e)
    (sym c.in-Record.is))
