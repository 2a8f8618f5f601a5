use Rattle.std.proofs.Common.{map, ap, sym, ◌∙◌, List, ℕ}
use Rattle.std.specs.Char.{to_ascii_lowercase}
use Rattle.std.proofs.lemmas.List.{length-map}
use Rattle.dns_names.specs.Compare.{lower}
use Rattle.dns_names.specs.internal.Name.{labels_in}
use Rattle.dns_names.proofs.WireLaws.{is_wire, labels_are, refill_map}
use Rattle.dns_names.proofs.CaseLaws.{lower-form, lower-are}
use Rattle.dns_names.proofs.name.Name.make_lowercase.Goals as goal

pub invariant_of-self : goal.invariant_of-self
invariant_of-self c =
    let labels = labels_in c.self.inside.label_count c.self.inside.wire.items in
    let bytes = refill_map to_ascii_lowercase c.self.inside.wire.items c.as_mut_slice.result.now c.make_ascii_lowercase.new.self c.as_mut_slice.ensures.value c.make_ascii_lowercase.ensures.after in
    let form = bytes ∙ ap (λ (xs : List ℕ). map to_ascii_lowercase xs) c.self.invariant.form ∙ lower-form labels c.self.invariant.are.each in
    is_wire _ _ (lower labels) form (sym c.self.invariant.many ∙ sym (length-map labels _)) (lower-are labels c.self.invariant.are)

pub returns : goal.returns
returns c =
    let labels = labels_in c.self.inside.label_count c.self.inside.wire.items in
    let bytes = refill_map to_ascii_lowercase c.self.inside.wire.items c.as_mut_slice.result.now c.make_ascii_lowercase.new.self c.as_mut_slice.ensures.value c.make_ascii_lowercase.ensures.after in
    let form = bytes ∙ ap (λ (xs : List ℕ). map to_ascii_lowercase xs) c.self.invariant.form ∙ lower-form labels c.self.invariant.are.each in
    rw (← c.self.view_is) (ap (λ (ls : List (List ℕ)). record { is_fqdn = c.self.inside.is_fqdn; labels = ls }) (labels_are _ _ (lower labels) form (sym c.self.invariant.many ∙ sym (length-map labels _))))
