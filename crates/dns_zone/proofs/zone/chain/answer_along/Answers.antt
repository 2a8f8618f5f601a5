use Rattle.std.proofs.Common.{◌-◌, ◌+◌, ◌∙◌, ap, arith, Option, Some, slice_set}
use Rattle.dns_names.specs.Name.{DomainName}
use Rattle.dns_zone.specs.Answer.{after_records, answer_at, max_aliases, record_of, rest_at}
use Rattle.dns_zone.specs.Rows.{row_of, zone_of}
use Rattle.dns_zone.specs.Section.{alias_records}
use Rattle.dns_zone.proofs.ChainLaws.{ends_along, breaks_along, follows_along, one_more_alias}
use Rattle.dns_zone.proofs.zone.chain.answer_along.Goals as goal

pub returns-in-End : goal.returns-in-End
returns-in-End c =
    c.direct_answer.ensures
    ∙ ends_along (zone_of c.args.origin.now c.args.sets.now) c.args.query.now.query_type c.loop-i.owner.now (max_aliases - c.loop-i.i) _ _ (c.in-End.ensures c.args.origin.now)
    ∙ c.loop-i.invariant.leads

pub returns-in-None : goal.returns-in-None
returns-in-None c =
    let zone = zone_of c.args.origin.now c.args.sets.now in
    let owner = c.loop-i.owner.now in
    let row = row_of c.in-Alias.alias.now in
    let more = one_more_alias c.loop-i.i c.loop-i.aliases c.new.result (record_of owner row) c.loop-i.invariant.so_far (omega (arith, c.loop-i-test.true, c.loop-i.invariant.places)) c.new.ensures in
    let after = alias_records (slice_set c.loop-i.aliases c.loop-i.i (Some c.new.result)) in
    let answer_of = answer_at (max_aliases - (c.loop-i.i + 1)) zone c.args.query.now.query_type in
    c.positive_answer.ensures
    ∙ ap (λ (o : Option DomainName). after_records after (rest_at answer_of o)) c.in-None.ensures
    ∙ follows_along zone c.args.query.now.query_type owner c.loop-i.i (alias_records c.loop-i.aliases) after row c.loop-i-test.true more.0 (c.in-Alias.ensures c.args.origin.now)
    ∙ c.loop-i.invariant.leads

pub loop-i-preserved : goal.loop-i-preserved
loop-i-preserved c =
    let zone = zone_of c.args.origin.now c.args.sets.now in
    let owner = c.loop-i.owner.now in
    let row = row_of c.in-Alias.alias.now in
    let more = one_more_alias c.loop-i.i c.loop-i.aliases c.new.result (record_of owner row) c.loop-i.invariant.so_far (omega (arith, c.loop-i-test.true, c.loop-i.invariant.places)) c.new.ensures in
    let after = alias_records (slice_set c.loop-i.aliases c.loop-i.i (Some c.new.result)) in
    let answer_of = answer_at (max_aliases - (c.loop-i.i + 1)) zone c.args.query.now.query_type in
    record {
      places = more.2 ∙ c.loop-i.invariant.places;
      so_far = more.1;
      leads = ap (λ (o : Option DomainName). after_records after (rest_at answer_of o)) c.in-Some.ensures
          ∙ follows_along zone c.args.query.now.query_type owner c.loop-i.i (alias_records c.loop-i.aliases) after row c.loop-i-test.true more.0 (c.in-Alias.ensures c.args.origin.now)
          ∙ c.loop-i.invariant.leads;
    }

pub returns-in-End-link_at : goal.returns-in-End-link_at
returns-in-End-link_at c =
    c.direct_answer-in-End-link_at.ensures
    ∙ ends_along (zone_of c.args.origin.now c.args.sets.now) c.args.query.now.query_type c.loop-i.owner.now (max_aliases - c.loop-i.i) _ _ (c.in-End-link_at.ensures c.args.origin.now)
    ∙ c.loop-i.invariant.leads

pub returns-in-Alias-link_at : goal.returns-in-Alias-link_at
returns-in-Alias-link_at c =
    c.positive_answer-in-Alias-link_at.ensures
    ∙ breaks_along (zone_of c.args.origin.now c.args.sets.now) c.args.query.now.query_type c.loop-i.owner.now (max_aliases - c.loop-i.i) _ _ (omega (arith, c.loop-i-test.false)) (c.in-Alias-link_at.ensures c.args.origin.now)
    ∙ c.loop-i.invariant.leads
