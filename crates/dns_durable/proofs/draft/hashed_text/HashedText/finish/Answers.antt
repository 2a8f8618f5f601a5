use Rattle.std.proofs.Math.Logic.{∥∥₁_elim}
use Rattle.std.specs.Coded.{Coded-set, coded_ℕ, coded_list}
use Rattle.std.specs.Prelude.{string_bytes}
use Rattle.dns_durable.proofs.draft.hashed_text.HashedText.finish.Goals as goal

pub returns-clause-digest : goal.returns-clause-digest
returns-clause-digest c = ∥∥₁_elim c.args.self.hashed (Coded-set (coded_list coded_ℕ) _ _) (λ h. c.finalize.ensures (string_bytes c.args.self.text) h)
