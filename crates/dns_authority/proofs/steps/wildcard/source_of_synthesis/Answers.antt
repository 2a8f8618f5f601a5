use Rattle.std.proofs.Common.{◌≡◌, ◌+◌, ◌-◌, ◌<◌, ◌∙◌, ℕ, drop, length, Option, Some, ap, subst, arith, sym}
use Rattle.std.specs.Prelude.{option_map, IfSome}
use Rattle.dns_names.specs.Name.{DomainName}
use Rattle.dns_zone.specs.Rows.{some_row_below}
use Rattle.dns_authority.specs.steps.Wildcard.{closest_encloser, suffix, wildcard_below}
use Rattle.dns_authority.proofs.WildcardLaws.{encloser_here, encloser_none, trimmed}
use Rattle.dns_authority.proofs.steps.wildcard.source_of_synthesis.Goals as goal
use Rattle.dns_authority.proofs.steps.wildcard.source_of_synthesis.Goals.{After-has_row_below}

-- whether the name directly above exists
exists : (c : After-has_row_below) → some_row_below c.args.zone.now.rows (drop 1 c.args.name.now.labels) ≡ c.has_row_below.result
exists c =
    sym (c.has_row_below.ensures
    ∙ ap (λ (n : DomainName). some_row_below c.args.zone.now.rows n.labels)
    (c.in_ok-above.ensures.ok ∙ trimmed c.args.name.now 1 _ (omega arith) (omega arith)))

pub returns-then-count-eq0 : goal.returns-then-count-eq0
returns-then-count-eq0 c = ap (option_map wildcard_below) (sym (encloser_none c.args.zone.now.rows c.args.name.now.labels 0 (omega arith)))

pub returns-then-has_row_below : goal.returns-then-has_row_below
returns-then-has_row_below c =
    ap (λ (n : DomainName). Some n) c.in_ok-wildcard_beside.ensures
    ∙ ap (option_map wildcard_below)
    (sym (encloser_here c.args.zone.now.rows c.args.name.now.labels 0 (omega arith) (exists (goal.at.returns-then-has_row_below c).After-has_row_below ∙ c.if-has_row_below.true)))

pub returns-in-Some : goal.returns-in-Some
returns-in-Some c =
    let labels = c.args.name.now.labels in
    let within = subst (λ (o : Option ℕ). IfSome o (λ kept. kept < length labels)) c.in-Some.is c.in_ok-kept.ensures.within in
    let one_more : c.label_count-count.result - c.in-Some.kept - 1 + 1 ≡ length labels - c.in-Some.kept = omega (arith, within, c.label_count-count.ensures) in
    ap (λ (n : DomainName). Some n) c.in_ok-wildcard_beside-in-Some.ensures
    ∙ ap (λ (n : ℕ). Some (wildcard_below (drop n labels))) one_more
    ∙ ap (option_map wildcard_below)
    (subst (λ (o : Option ℕ). option_map (suffix labels) o ≡ closest_encloser c.args.zone.now.rows labels) c.in-Some.is c.in_ok-kept.ensures.encloser)

pub returns : goal.returns
returns c =
    let labels = c.args.name.now.labels in
    ap (option_map wildcard_below)
    (subst (λ (o : Option ℕ). option_map (suffix labels) o ≡ closest_encloser c.args.zone.now.rows labels) c.in-None.is c.in_ok-kept.ensures.encloser)
