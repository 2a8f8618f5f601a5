use Rattle.std.proofs.Common.{subst, sym, false, ◌≡◌, [], ◌∷◌, List, ℕ}
use Rattle.std.specs.Ordering.{is_gt}
use Rattle.stub_hosts.specs.internal.HostKeys.{key_cmp, address_key}
use Rattle.stub_hosts.proofs.HostKeyLaws.{bounds_in_order}
use Rattle.stub_hosts.proofs.hosts.address_index.AddressIndex.pointers.Goals as goal

pub pointers_between-requires : goal.pointers_between-requires
pointers_between-requires c =
    subst (λ (end : List ℕ). is_gt (key_cmp c.in_ok-start.start end) ≡ false) (sym c.in_ok-end.ensures)
    (subst (λ (start : List ℕ). is_gt (key_cmp start (address_key c.args.address (1 ∷ []))) ≡ false) (sym c.in_ok-start.ensures) (bounds_in_order c.args.address))
