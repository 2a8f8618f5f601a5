use Rattle.std.proofs.Common.{◌≡◌, ◌-◌, length, drop, arith, length-drop}
use Rattle.dns_names.specs.internal.Name.{labels_in}
use Rattle.dns_names.proofs.CaseLaws.{each-drop}
use Rattle.dns_names.proofs.WireLaws.{is_run, labels_are}
use Rattle.dns_names.proofs.name.Name.push_labels.Goals as goal
use Rattle.dns_names.proofs.name.Name.push_labels.Goals.{After-label_count}

many : (c : After-label_count) → c.label_count.result - c.args.skipped ≡ length (drop c.args.skipped c.args.other.now.labels)
many c = omega (arith, c.label_count.ensures.value, length-drop c.args.skipped c.args.other.now.labels)

-- the run has the labels that are left
run_is : (c : After-label_count) → labels_in (c.label_count.result - c.args.skipped) c.wire_after.result.now ≡ drop c.args.skipped c.args.other.now.labels
run_is c = labels_are _ _ _ c.wire_after.ensures.value (many c)

pub push_run-requires-clause-run : goal.push_run-requires-clause-run
push_run-requires-clause-run c =
    let at = (goal.at.push_run-requires-clause-run c).After-label_count in
    is_run _ _ _ c.wire_after.ensures.value (many at) (each-drop c.args.skipped _ c.wire_after.ensures.labels.each)

pub push_run-requires-clause-fits : goal.push_run-requires-clause-fits
push_run-requires-clause-fits c =
    let at = (goal.at.push_run-requires-clause-fits c).After-label_count in
    rw (run_is at) c.requires.fits

pub returns-clause-ok : goal.returns-clause-ok
returns-clause-ok c =
    let at = (goal.at.returns-clause-ok c).After-label_count in
    rw (run_is at) at c.push_run.ensures.ok

pub returns-clause-inline : goal.returns-clause-inline
returns-clause-inline c =
    let at = (goal.at.returns-clause-inline c).After-label_count in
    rw (run_is at) at c.push_run.ensures.inline
