use Rattle.std.proofs.Common.{◌≡◌, ◌∙◌, ◌-◌, length, ap, arith, sym}
use Rattle.dns_names.specs.Name.{DomainName}
use Rattle.dns_zone.specs.Rows.{some_row_below}
use Rattle.dns_authority.specs.steps.Wildcard.{suffix}
use Rattle.dns_authority.proofs.EncloserLaws.{at_root, first_missing, none_missing, one_below}
use Rattle.dns_authority.proofs.WildcardLaws.{trimmed}
use Rattle.dns_authority.proofs.steps.wildcard.encloser_count.Goals as goal
use Rattle.dns_authority.proofs.steps.wildcard.encloser_count.Goals.{After-has_row_below}

-- whether the name with so many labels exists
exists : (c : After-has_row_below) → some_row_below c.args.zone.now.rows (suffix c.args.name.now.labels c.loop-kept.kept) ≡ c.has_row_below.result
exists c =
    let labels = c.args.name.now.labels in
    sym (c.has_row_below.ensures
    ∙ ap (λ (n : DomainName). some_row_below c.args.zone.now.rows n.labels)
    (c.in_ok-above.ensures.ok ∙ trimmed c.args.name.now (length labels - c.loop-kept.kept) _ (omega arith) (omega arith)))

pub loop-kept-init : goal.loop-kept-init
loop-kept-init c = record { encloser = at_root c.args.zone.now.rows c.args.name.now.labels; within = tt }

pub loop-kept-preserved : goal.loop-kept-preserved
loop-kept-preserved c = record {
  encloser = one_below c.args.zone.now.rows c.args.name.now.labels c.loop-kept.kept (omega arith) (exists (goal.at.loop-kept-preserved c).After-has_row_below ∙ c.if-not-has_row_below.false);
  within = omega arith;
}

pub returns-then-not-has_row_below-clause-encloser : goal.returns-then-not-has_row_below-clause-encloser
returns-then-not-has_row_below-clause-encloser c =
    first_missing c.args.zone.now.rows c.args.name.now.labels c.loop-kept.kept c.loop-kept.found (omega arith)
    (exists (goal.at.returns-then-not-has_row_below-clause-encloser c).After-has_row_below ∙ c.if-not-has_row_below.true) c.loop-kept.invariant.encloser

pub returns-clause-encloser : goal.returns-clause-encloser
returns-clause-encloser c = none_missing c.args.zone.now.rows c.args.name.now.labels c.loop-kept.kept c.loop-kept.found (omega arith) c.loop-kept.invariant.encloser
