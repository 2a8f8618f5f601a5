use Rattle.std.proofs.Common.{◌∙◌, refl, sym, ap}
use Rattle.std.specs.Map.{values_of}
use Rattle.dns_durable.proofs.DraftStepLaws.{pass_draft, whole_draft}
use Rattle.dns_durable.proofs.DraftSettleLaws.{on_ok}
use Rattle.dns_durable.proofs.draft.Draft.write_next.Goals as goal

pub returns-in-Some-clause-draft : goal.returns-in-Some-clause-draft
returns-in-Some-clause-draft c =
    on_ok c.pass.result _ _ c.pass.ensures (λ passes base draft.
    pass_draft base c.args.zone.now c.args.self.now c.pass.new.self c.sets_after-sets.ensures.0 c.in-Some.set.now (values_of c.next.new.self)
    c.sets_after-sets.ensures.1.0 (sym c.sets_after-sets.ensures.1.1 ∙ ap values_of c.in-Some.ensures.steps) c.requires.unfinished passes draft)

pub returns-in-None-clause-draft : goal.returns-in-None-clause-draft
returns-in-None-clause-draft c = λ base draft.
    whole_draft base c.args.zone.now c.args.self.now _ c.sets_after-sets.ensures.0 c.sets_after-sets.ensures.1.0
    (sym c.sets_after-sets.ensures.1.1 ∙ ap values_of c.in-None.ensures.steps.0) refl refl draft
