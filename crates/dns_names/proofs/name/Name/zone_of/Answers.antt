use Rattle.std.proofs.Common.{◌≡◌, ◌-◌, false, ◌∙◌, sym, arith}
use Rattle.std.proofs.lemmas.Bool.Decides.{nat_tests}
use Rattle.dns_names.specs.Compare.{at_or_below}
use Rattle.dns_names.proofs.ComparisonLaws.{zone_by_last, too_short}
use Rattle.dns_names.proofs.name.Name.zone_of.Goals as goal

pub returns-then-own-others : goal.returns-then-own-others
returns-then-own-others c = c.ends_in.ensures ∙ sym (zone_by_last c.args.self.now.labels c.args.name.now.labels (c.label_count-others.result - c.label_count-own.result) (omega arith))

pub returns-else-own-others : goal.returns-else-own-others
returns-else-own-others c =
    let none : at_or_below c.args.self.now.labels c.args.name.now.labels ≡ false = too_short c.args.self.now.labels c.args.name.now.labels (omega arith) in
    rw none (grind (arith, nat_tests))
