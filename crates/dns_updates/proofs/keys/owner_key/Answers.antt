use Rattle.std.proofs.Common.{◌≤◌, List, length, subst, sym, ℕ}
use Rattle.dns_updates.proofs.keys.owner_key.Goals as goal

pub returns-clause-most : goal.returns-clause-most
returns-clause-most c = subst (λ (l : List ℕ). length l ≤ 254) (sym c.of_bytes.ensures) c.owner_bytes.ensures.most
