use Rattle.std.proofs.Common.{◌≡◌, [], drop, List, ℕ, ap, sym, subst, ◌∙◌}
use Rattle.dns_names.specs.Parse.{PartialName}
use Rattle.dns_names.specs.internal.Name.{labels_in, IsWire}
use Rattle.dns_names.proofs.PartialLaws.{all_front}
use Rattle.dns_names.proofs.name.partial.PartialName.into_name.Goals as goal

pub invariant_of-result : goal.invariant_of-result
invariant_of-result c =
    let none : drop c.self.inside.label_start c.self.inside.wire.items ≡ [] = rw (← c.self.view_is) at c.requires in
    subst (λ (bytes : List ℕ). IsWire c.self.inside.label_count bytes) (sym (all_front _ _ _ c.self.invariant none)) c.self.invariant.wire

pub returns : goal.returns
returns c =
    let none : drop c.self.inside.label_start c.self.inside.wire.items ≡ [] = rw (← c.self.view_is) at c.requires in
    ap (λ (labels : List (List ℕ)). record { is_fqdn = c.args.is_fqdn; labels = labels })
    (ap (λ (bytes : List ℕ). labels_in c.self.inside.label_count bytes) (all_front _ _ _ c.self.invariant none) ∙ ap (λ (n : PartialName). n.labels) c.self.view_is)
