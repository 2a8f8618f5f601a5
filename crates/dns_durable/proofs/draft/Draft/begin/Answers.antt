use Rattle.std.proofs.Common.{subst}
use Rattle.dns_names.specs.Name.{DomainName}
use Rattle.dns_durable.specs.internal.Drafting.{IsBegun}
use Rattle.dns_durable.proofs.DraftSettleLaws.{if_ok}
use Rattle.dns_durable.proofs.DraftStepLaws.{begun_draft}
use Rattle.dns_durable.proofs.draft.Draft.begin.Goals as goal

pub returns-clause-begun : goal.returns-clause-begun
returns-clause-begun c =
    if_ok c.begin_with.result _ _ c.begin_with.ensures (λ d begun.
    begun_draft c.args.zone.now d c.sets-sets.result c.in-Some.start.now c.next.new.self c.sets-sets.ensures c.in-Some.ensures.steps
    (subst (λ (o : DomainName). IsBegun o c.in-Some.start.now d) c.origin.ensures.origin begun))
