use Rattle.std.proofs.Common.{◌≡◌, ◌-◌, false, ◌∙◌, sym, map, arith, length}
use Rattle.std.proofs.lemmas.Bool.Decides.{nat_tests}
use Rattle.std.proofs.lemmas.List.{length-map}
use Rattle.dns_names.specs.Compare.{at_or_below}
use Rattle.dns_names.proofs.ComparisonLaws.{zone_by_last, too_short}
use Rattle.dns_names.proofs.name.Name.ends_with.Goals as goal

pub returns-then-others-own : goal.returns-then-others-own
returns-then-others-own c =
    c.ends_in_labels.ensures
    ∙ sym (zone_by_last (map (λ label. label.now) c.args.labels.now) c.args.self.now.labels (c.label_count-own.result - length c.args.labels.now)
    (omega (arith, length-map c.args.labels.now (λ label. label.now))))

pub returns-else-others-own : goal.returns-else-others-own
returns-else-others-own c =
    let none : at_or_below (map (λ label. label.now) c.args.labels.now) c.args.self.now.labels ≡ false =
    too_short (map (λ label. label.now) c.args.labels.now) c.args.self.now.labels (omega (arith, length-map c.args.labels.now (λ label. label.now))) in
    rw none (grind (arith, nat_tests))
