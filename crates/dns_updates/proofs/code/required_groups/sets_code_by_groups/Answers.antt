use Rattle.std.proofs.Common.{◌∙◌, ap, not, refl, sym}
use Rattle.dns_records.specs.Record.{Record}
use Rattle.dns_messages.specs.declared.response_code.ResponseCode.TheVariants.{NXRRSet}
use Rattle.dns_updates.specs.Code.{fault_if, has_required}
use Rattle.dns_updates.specs.Records.{is_in_class}
use Rattle.dns_updates.proofs.RequiredLaws.{all_left, passed_more, refused, requires_itself}
use Rattle.dns_updates.proofs.code.required_groups.sets_code_by_groups.Goals as goal

pub loop-prerequisite-init : goal.loop-prerequisite-init
loop-prerequisite-init g c = (all_left (g.Z.ZoneRows.rows c.args.zone.now) c.args.prerequisites.now c.in_ok-groups.groups c.in_ok-groups.ensures, refl)

pub returns-then-not-branch : goal.returns-then-not-branch
returns-then-not-branch g c =
    sym (ap (λ b. fault_if (not b) NXRRSet)
    (refused (has_required (g.Z.ZoneRows.rows c.args.zone.now) c.args.prerequisites.now) (λ (r : Record). is_in_class r.dns_class) c.args.prerequisites.now c.loop-prerequisite.prerequisite-index c.prerequisite-item.result c.prerequisite-item.result c.loop-prerequisite-test.true c.prerequisite-item.is
    (sym (c.in_ok-is_met.ensures.met c.args.prerequisites.now c.loop-prerequisite.invariant.0
    (requires_itself c.args.prerequisites.now c.loop-prerequisite.prerequisite-index c.prerequisite-item.result c.prerequisite-item.result c.loop-prerequisite-test.true c.prerequisite-item.is)) ∙ c.if-not-branch.true)))

pub loop-prerequisite-preserved : goal.loop-prerequisite-preserved
loop-prerequisite-preserved g c = (
  c.in_ok-is_met.ensures.left c.args.prerequisites.now c.loop-prerequisite.invariant.0 c.if-not-branch.false,
  passed_more (has_required (g.Z.ZoneRows.rows c.args.zone.now) c.args.prerequisites.now) (λ (r : Record). is_in_class r.dns_class) c.args.prerequisites.now c.loop-prerequisite.prerequisite-index c.prerequisite-item.result c.prerequisite-item.result c.loop-prerequisite-test.true c.prerequisite-item.is
      c.loop-prerequisite.invariant.1
      (sym (c.in_ok-is_met.ensures.met c.args.prerequisites.now c.loop-prerequisite.invariant.0
      (requires_itself c.args.prerequisites.now c.loop-prerequisite.prerequisite-index c.prerequisite-item.result c.prerequisite-item.result c.loop-prerequisite-test.true c.prerequisite-item.is)) ∙ c.if-not-branch.false),
)
