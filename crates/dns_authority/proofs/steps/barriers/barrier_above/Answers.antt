use Rattle.std.proofs.Common.{◌∙◌, ◌-◌, length, Some, ap, arith, sym}
use Rattle.dns_names.specs.Name.{DomainName}
use Rattle.dns_names.specs.Build.{trim_to}
use Rattle.dns_authority.specs.steps.Barrier.{is_barrier}
use Rattle.dns_authority.proofs.BarrierLaws.{found_first, found_none, passed_first}
use Rattle.dns_authority.proofs.StepsExistenceLaws.{none_below}
use Rattle.dns_zone.specs.Rows.{some_row_below}
use Rattle.dns_authority.proofs.steps.barriers.barrier_above.Goals as goal

pub returns-then-not-node : goal.returns-then-not-node
returns-then-not-node c =
    let zone = c.args.zone.now in
    let name = c.args.name.now in
    sym (none_below zone name c.loop-kept.kept (length name.labels - c.loop-kept.kept) (omega arith)
    (ap (λ (n : DomainName). some_row_below zone.rows n.labels) (sym c.in_ok-above.ensures.ok) ∙ sym c.node-node.ensures.exists ∙ c.if-not-node.true))
    ∙ c.loop-kept.invariant

pub returns-then-is_barrier : goal.returns-then-is_barrier
returns-then-is_barrier c =
    let zone = c.args.zone.now in
    let name = c.args.name.now in
    ap (λ (n : DomainName). Some n) c.in_ok-above.ensures.ok
    ∙ sym (found_first (is_barrier zone) (trim_to name) c.loop-kept.kept (length name.labels) c.is_barrier.result (omega arith) (c.is_barrier.ensures ∙ ap (is_barrier zone) c.in_ok-above.ensures.ok) c.if-is_barrier.true)
    ∙ c.loop-kept.invariant

pub loop-kept-preserved : goal.loop-kept-preserved
loop-kept-preserved c =
    let zone = c.args.zone.now in
    let name = c.args.name.now in
    sym (passed_first (is_barrier zone) (trim_to name) c.loop-kept.kept (length name.labels) c.is_barrier.result (omega arith) (c.is_barrier.ensures ∙ ap (is_barrier zone) c.in_ok-above.ensures.ok) c.if-is_barrier.false)
    ∙ c.loop-kept.invariant

pub returns : goal.returns
returns c = sym (found_none (is_barrier c.args.zone.now) (trim_to c.args.name.now) c.loop-kept.kept (length c.args.name.now.labels) (omega arith)) ∙ c.loop-kept.invariant
