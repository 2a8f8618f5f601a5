use Rattle.std.proofs.Common.{◌∙◌, cond, List, ap, sym, subst, option_map, refl, Some}
use Rattle.std.specs.BTreeMap.{is_at, values}
use Rattle.std.specs.Map.{values_of}
use Rattle.std.specs.Ordering.{eq_by_cmp}
use Rattle.dns_records.specs.Record.{Record}
use Rattle.dns_records.specs.Rows.{key, key_cmp}
use Rattle.dns_updates.specs.Changes.{changed_at}
use Rattle.dns_updates.specs.internal.Indexes.{with_records, HaveTheirKeys}
use Rattle.dns_updates.specs.declared.changes.changed_set.ChangedSet.{ChangedSet}
use Rattle.dns_updates.proofs.ChangedLaws.{Entries, stored_cmp, found_at, keys_of_value, none_replaced, value_at}
use Rattle.dns_updates.proofs.changes.changed_sets.ChangedSets.replace.Goals as goal

pub invariant_of-self : goal.invariant_of-self
invariant_of-self c =
    let es : Entries = c.self.inside.map.entries in
    let w : ChangedSet = record c.in-Some.set.now { records = c.replace_by.new.self } in
    subst HaveTheirKeys (sym (c.get_mut.follows.holds w).0)
    (keys_of_value es (is_at (stored_cmp c.set_key.result)) c.in-Some.set.now w c.self.invariant (sym c.in-Some.ensures.value) refl)

pub returns-in-Some-clause-some : goal.returns-in-Some-clause-some
returns-in-Some-clause-some c =
    ap (option_map (λ (s : ChangedSet). s.records))
    (ap (λ (sets : List ChangedSet). changed_at sets (key c.args.owner.now.labels c.args.record_type)) (sym c.self.view_is)
    ∙ sym (found_at c.self.inside.map.entries c.set_key.result c.args.owner.now.labels c.args.record_type c.self.invariant (λ i. (c.set_key.ensures.owner i, c.set_key.ensures.of_type i)))
    ∙ sym c.in-Some.ensures.value)
    ∙ ap Some (sym c.replace_by.ensures.result)

pub returns-in-Some-clause-sets : goal.returns-in-Some-clause-sets
returns-in-Some-clause-sets c = λ k.
    let es : Entries = c.self.inside.map.entries in
    let w : ChangedSet = record c.in-Some.set.now { records = c.replace_by.new.self } in
    ap (λ (l : Entries). changed_at (values_of l) k) (c.get_mut.follows.holds w).0
    ∙ value_at es c.set_key.result c.args.owner.now.labels c.args.record_type c.in-Some.set.now c.args.records w k c.self.invariant
    (λ i. (c.set_key.ensures.owner i, c.set_key.ensures.of_type i)) (sym c.in-Some.ensures.value) (ap (λ (records : List Record). record c.in-Some.set.now { records = records }) c.replace_by.ensures.list)
    ∙ ap (λ (sets : List ChangedSet). cond (eq_by_cmp key_cmp k (key c.args.owner.now.labels c.args.record_type)) (with_records c.args.records (changed_at sets k)) (changed_at sets k)) c.self.view_is

none : goal.returns-clause-none
none c =
    ap (λ (sets : List ChangedSet). changed_at sets (key c.args.owner.now.labels c.args.record_type)) (sym c.self.view_is)
    ∙ sym (found_at c.self.inside.map.entries c.set_key.result c.args.owner.now.labels c.args.record_type c.self.invariant (λ i. (c.set_key.ensures.owner i, c.set_key.ensures.of_type i)))
    ∙ sym c.in_default.ensures.value

pub returns-clause-none : goal.returns-clause-none
returns-clause-none c = none c

pub returns-clause-sets : goal.returns-clause-sets
returns-clause-sets c = λ k.
    ap (λ m. changed_at (values m) k) c.get_mut.follows.holds-at-none
    ∙ ap (λ (sets : List ChangedSet). changed_at sets k) c.self.view_is
    ∙ none_replaced c.args.records c.args.self.now (key c.args.owner.now.labels c.args.record_type) k (none c)
