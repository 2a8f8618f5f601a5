use Rattle.std.proofs.Common.{ap, List, ℕ}
use Rattle.std.specs.Map.{lookup}
use Rattle.dns_updates.specs.internal.Indexes.{is_code}
use Rattle.dns_updates.specs.declared.changes.owner_types.Listing.{Listing}
use Rattle.dns_updates.proofs.changes.owner_types.OwnerTypes.new.Goals as goal

pub returns : goal.returns
returns c = λ code. ap (λ (es : List (List ℕ × Listing)). lookup (λ k. is_code code k) es) c.new.ensures.empty
