use Rattle.std.proofs.Common.{◌++◌, List, ℕ, sym, subst}
use Rattle.std.proofs.Math.Logic.{∥∥₁_map}
use Rattle.std.specs.Prelude.{string_bytes}
use Rattle.sha2.specs.Hashers.{Holds256}
use Rattle.dns_durable.proofs.draft.hashed_text.HashedText.push_str.Goals as goal

pub invariant_of-self-2 : goal.invariant_of-self-2
invariant_of-self-2 c = record {
  hashed = ∥∥₁_map c.args.self.now.hashed (λ h.
      subst (λ (m : List ℕ). Holds256 c.update.new.self m) (sym c.in_ok-push_str.ensures.bytes)
      (subst (λ (piece : List ℕ). Holds256 c.update.new.self (string_bytes c.args.self.now.text ++ piece)) c.as_bytes.ensures.value (c.update.ensures (string_bytes c.args.self.now.text) h)));
}
