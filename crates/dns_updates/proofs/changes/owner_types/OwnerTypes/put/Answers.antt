use Rattle.std.proofs.Common.{◌∙◌, ap, cond, List, ℕ, Some}
use Rattle.dns_updates.specs.internal.Indexes.{is_code, listing_at}
use Rattle.dns_updates.proofs.changes.owner_types.OwnerTypes.put.Goals as goal

pub returns : goal.returns
returns c = λ code.
    c.in_ok-insert.ensures.updates.0 code
    ∙ ap (λ (own : List ℕ). cond (is_code own code) (Some c.args.listing) (listing_at c.args.self.now code)) c.owner_key.ensures.bytes
