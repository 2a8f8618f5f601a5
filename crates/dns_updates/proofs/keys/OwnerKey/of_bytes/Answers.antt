use Rattle.std.proofs.Common.{◌∙◌, List, ap, drop, subst, ℕ}
use Rattle.dns_updates.specs.internal.OwnerKeys.{front, AreOctets}
use Rattle.dns_updates.proofs.keys.OwnerKey.of_bytes.Goals as goal

pub invariant_of-result : goal.invariant_of-result
invariant_of-result c = record {
  octets = subst AreOctets c.as_slice.ensures.value c.front-first.ensures.octets;
  first = c.front-first.ensures.number ∙ ap (front 16) c.as_slice.ensures.value;
  second =
      c.front-second.ensures.number ∙ ap (front 16) c.after_front.ensures
      ∙ ap (λ (l : List ℕ). front 16 (drop 16 l)) c.as_slice-2.ensures.value;
}
