use Rattle.std.proofs.Common.{◌∙◌, ap, cond, List, ℕ, None}
use Rattle.dns_updates.specs.internal.Indexes.{is_code, listing_at}
use Rattle.dns_updates.proofs.changes.owner_types.OwnerTypes.take.Goals as goal

pub returns-clause-value : goal.returns-clause-value
returns-clause-value c = c.remove.ensures.value ∙ ap (listing_at c.args.self.now) c.owner_key.ensures.bytes

pub returns-clause-others : goal.returns-clause-others
returns-clause-others c = λ code.
    c.remove.ensures.updates.0 code
    ∙ ap (λ (own : List ℕ). cond (is_code own code) None (listing_at c.args.self.now code)) c.owner_key.ensures.bytes
