use Rattle.std.proofs.Common.{◌<◌, ◌≤◌, ◌∙◌, length, true, false, ap, sym, subst, rules}
use Rattle.dns_names.specs.Name.{DomainName}
use Rattle.zone_lines.specs.warnings.Cuts.{has_cut_from}
use Rattle.zone_lines.specs.warnings.Survey.{facts_view}
use Rattle.zone_lines.proofs.CutLaws.{cut_found, cut_passed, decided, flag_above, none_left}
use Rattle.zone_lines.proofs.warnings.cuts.is_below_cut.Goals as goal

pub returns-then-is_delegated : goal.returns-then-is_delegated
returns-then-is_delegated c = λ entries surveys.
    let some : 0 < length c.loop-above.above.labels = search rules in
    decided (facts_view c.args.facts.now) entries c.args.name.now true c.if-facts.false
    (sym (c.loop-above.invariant.0 entries surveys)
    ∙ cut_found (facts_view c.args.facts.now) entries c.loop-above.above (c.loop-above.invariant.1 some) some
    (sym (c.is_delegated.ensures entries surveys) ∙ c.if-is_delegated.true))

pub loop-above-preserved : goal.loop-above-preserved
loop-above-preserved c =
    let some : 0 < length c.loop-above.above.labels = search rules in (
      (λ entries surveys.
          ap (λ (n : DomainName). has_cut_from (facts_view c.args.facts.now) entries n.labels) c.in_ok-above-2.ensures.ok
          ∙ cut_passed (facts_view c.args.facts.now) entries c.loop-above.above (c.loop-above.invariant.1 some) some
          (sym (c.is_delegated.ensures entries surveys) ∙ c.if-is_delegated.false)
          ∙ c.loop-above.invariant.0 entries surveys),
      (λ h.
          ap (λ (n : DomainName). n.is_fqdn) c.in_ok-above-2.ensures.ok
          ∙ flag_above c.loop-above.above (subst (λ (n : DomainName). 0 < length n.labels) c.in_ok-above-2.ensures.ok h)),
    )

pub returns : goal.returns
returns c = λ entries surveys.
    let past : length c.loop-above.above.labels ≤ length (facts_view c.args.facts.now).origin.labels = search rules in
    decided (facts_view c.args.facts.now) entries c.args.name.now false c.if-facts.false
    (sym (c.loop-above.invariant.0 entries surveys) ∙ none_left (facts_view c.args.facts.now) entries c.loop-above.above.labels past)
