use Rattle.std.proofs.Common.{◌≡◌, ℕ, zero, suc, false, eqb, nat_eq, refl, sym, ◌∙◌, arith}
use Rattle.std.proofs.lemmas.Bool.Decides.{nat_tests}
use Rattle.dns_names.proofs.name.Name.is_root.Goals as goal

-- both tests for zero agree
same_test : (n : ℕ) → eqb n 0 ≡ nat_eq n 0
same_test zero = refl
same_test (suc n) =
    let none : eqb (suc n) 0 ≡ false = grind arith in
    let other : nat_eq (suc n) 0 ≡ false = grind (arith, nat_tests) in
    none ∙ sym other

pub returns-then-self : goal.returns-then-self
returns-then-self c = rw (← c.self.view_is) (rw (c.if-self.true, c.self.invariant.many) (same_test c.self.inside.label_count))
