use Rattle.std.proofs.Common.{◌≡◌, ◌∙◌, List, true, Option, None, rules, refl, sym, ap, subst}
use Rattle.std.specs.Prelude.{IfSome}
use Rattle.dns_names.specs.Name.{DomainName}
use Rattle.dns_records.specs.RecordSet.{RecordSetValue}
use Rattle.dns_zone.specs.Load.{fault_of}
use Rattle.dns_zone.specs.Sets.{set_at}
use Rattle.dns_zone.specs.Rows.{rows_of_sets}
use Rattle.dns_zone.proofs.KeptLaws.{AreKept, kept_of, is_zone}
use Rattle.dns_zone.proofs.RowLaws.{no_empty_set}
use Rattle.dns_zone.proofs.zone.load.zone_of.Goals as goal

pub invariant_of-result : goal.invariant_of-result
invariant_of-result c =
    let none : c.fault_of.result ≡ None = search rules in
    let faultless : fault_of c.args.origin c.args.sets ≡ None =
    sym (c.fault_of.ensures ∙ (λ i. fault_of (c.as_ref.ensures.value i) (c.as_slice.ensures i))) ∙ none in
    let k : AreKept c.in-Some-origin.origin c.args.sets c.in_ok-sets.sets =
    kept_of c.args.origin c.in-Some-origin.origin c.args.sets c.in_ok-sets.sets c.requires.sets c.requires.distinct c.in-Some-origin.is faultless
    (λ k. c.in_ok-sets.ensures.sets k ∙ ap (λ (sets : List RecordSetValue). set_at sets k) c.into_vec.ensures) c.in_ok-sets.ensures.ordered in (
      subst (λ (o : Option DomainName). IfSome o (λ name. name.is_fqdn ≡ true)) c.in-Some-origin.is c.requires.origin,
      k.sound,
      k.zone_sets,
    )

pub returns-clause-rows : goal.returns-clause-rows
returns-clause-rows c =
    let none : c.fault_of.result ≡ None = search rules in
    let faultless : fault_of c.args.origin c.args.sets ≡ None =
    sym (c.fault_of.ensures ∙ (λ i. fault_of (c.as_ref.ensures.value i) (c.as_slice.ensures i))) ∙ none in
    let k : AreKept c.in-Some-origin.origin c.args.sets c.in_ok-sets.sets =
    kept_of c.args.origin c.in-Some-origin.origin c.args.sets c.in_ok-sets.sets c.requires.sets c.requires.distinct c.in-Some-origin.is faultless
    (λ k. c.in_ok-sets.ensures.sets k ∙ ap (λ (sets : List RecordSetValue). set_at sets k) c.into_vec.ensures) c.in_ok-sets.ensures.ordered in
    k.rows

pub returns-clause-filled : goal.returns-clause-filled
returns-clause-filled c =
    let none : c.fault_of.result ≡ None = search rules in
    let faultless : fault_of c.args.origin c.args.sets ≡ None =
    sym (c.fault_of.ensures ∙ (λ i. fault_of (c.as_ref.ensures.value i) (c.as_slice.ensures i))) ∙ none in
    let k : AreKept c.in-Some-origin.origin c.args.sets c.in_ok-sets.sets =
    kept_of c.args.origin c.in-Some-origin.origin c.args.sets c.in_ok-sets.sets c.requires.sets c.requires.distinct c.in-Some-origin.is faultless
    (λ k. c.in_ok-sets.ensures.sets k ∙ ap (λ (sets : List RecordSetValue). set_at sets k) c.into_vec.ensures) c.in_ok-sets.ensures.ordered in
    no_empty_set c.in_ok-sets.sets k.sound

pub returns-clause-well_formed : goal.returns-clause-well_formed
returns-clause-well_formed c =
    let none : c.fault_of.result ≡ None = search rules in
    let faultless : fault_of c.args.origin c.args.sets ≡ None =
    sym (c.fault_of.ensures ∙ (λ i. fault_of (c.as_ref.ensures.value i) (c.as_slice.ensures i))) ∙ none in
    let k : AreKept c.in-Some-origin.origin c.args.sets c.in_ok-sets.sets =
    kept_of c.args.origin c.in-Some-origin.origin c.args.sets c.in_ok-sets.sets c.requires.sets c.requires.distinct c.in-Some-origin.is faultless
    (λ k. c.in_ok-sets.ensures.sets k ∙ ap (λ (sets : List RecordSetValue). set_at sets k) c.into_vec.ensures) c.in_ok-sets.ensures.ordered in
    is_zone (record { origin = c.in-Some-origin.origin; rows = rows_of_sets c.in_ok-sets.sets }) c.in_ok-sets.sets refl
    (subst (λ (o : Option DomainName). IfSome o (λ name. name.is_fqdn ≡ true)) c.in-Some-origin.is c.requires.origin) k.sound k.zone_sets
