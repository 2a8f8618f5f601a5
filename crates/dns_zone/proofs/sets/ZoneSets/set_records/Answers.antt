use Rattle.std.proofs.Common.{◌∙◌, cond, List, ap, sym, subst}
use Rattle.std.specs.BTreeMap.{is_at, values}
use Rattle.std.specs.Map.{values_of}
use Rattle.std.specs.Ordering.{eq_by_cmp}
use Rattle.dns_records.specs.RecordSet.{RecordSetValue}
use Rattle.dns_zone.specs.Rows.{Key, key, key_cmp}
use Rattle.dns_zone.specs.Sets.{set_at, set_place, with_records, AreInOrder, HaveTheirKeys}
use Rattle.dns_zone.specs.declared.sets.ZoneSets.TheInside.{Inside}
use Rattle.dns_zone.proofs.SetLaws.{Entries, stored_cmp, found_at, in_order}
use Rattle.dns_zone.proofs.StoreLaws.{keys_of_value, none_written, value_at}
use Rattle.dns_zone.proofs.sets.ZoneSets.set_records.Goals as goal
use Rattle.dns_zone.proofs.sets.ZoneSets.set_records.Goals.{in-Some, in_default}

pub invariant_of-self : goal.invariant_of-self
invariant_of-self c =
    let es : Entries = c.self.inside.map.entries in
    elim c.match-get_mut.branch [
      | in-Some w ↦
          subst (λ (x : Inside). HaveTheirKeys x.map.entries) (sym w.self-inside-is)
          (subst HaveTheirKeys (sym (c.get_mut.follows.holds w.set_records.new.self).0)
          (keys_of_value es (is_at (stored_cmp c.set_key.result)) w.in-Some.set.now w.set_records.new.self c.self.invariant (sym w.in-Some.ensures.value) (ap set_place w.set_records.ensures)))
      | in_default w ↦
          subst (λ (x : Inside). HaveTheirKeys x.map.entries) (sym w.self-inside-is)
          (subst (λ m. HaveTheirKeys m.entries) (sym c.get_mut.follows.holds-at-none) c.self.invariant)
    ]

pub returns-clause-sets : goal.returns-clause-sets
returns-clause-sets c = λ k.
    let es : Entries = c.self.inside.map.entries in
    let K : Key = key c.args.owner.now.labels c.args.record_type in
    elim c.match-get_mut.branch [
      | in-Some w ↦
          ap (λ (x : Inside). set_at (values x.map) k) w.self-inside-is
          ∙ ap (λ (l : Entries). set_at (values_of l) k) (c.get_mut.follows.holds w.set_records.new.self).0
          ∙ value_at es c.set_key.result c.args.owner.now.labels c.args.record_type w.in-Some.set.now c.args.records.items w.set_records.new.self k c.self.invariant
          (λ i. (c.set_key.ensures.owner i, c.set_key.ensures.of_type i)) (sym w.in-Some.ensures.value) w.set_records.ensures
          ∙ ap (λ (sets : List RecordSetValue). cond (eq_by_cmp key_cmp k K) (with_records c.args.records.items (set_at sets k)) (set_at sets k)) c.self.view_is
      | in_default w ↦
          ap (λ (x : Inside). set_at (values x.map) k) w.self-inside-is
          ∙ ap (λ m. set_at (values m) k) c.get_mut.follows.holds-at-none
          ∙ ap (λ (sets : List RecordSetValue). set_at sets k) c.self.view_is
          ∙ none_written c.args.records.items c.args.self.now K k
          (ap (λ (sets : List RecordSetValue). set_at sets K) (sym c.self.view_is)
          ∙ sym (found_at es c.set_key.result c.args.owner.now.labels c.args.record_type c.self.invariant (λ i. (c.set_key.ensures.owner i, c.set_key.ensures.of_type i)))
          ∙ sym w.in_default.ensures.value)
    ]

pub returns-clause-ordered : goal.returns-clause-ordered
returns-clause-ordered c =
    let es : Entries = c.self.inside.map.entries in
    elim c.match-get_mut.branch [
      | in-Some w ↦
          let v = w.set_records.new.self in
          subst (λ (x : Inside). AreInOrder (values x.map)) (sym w.self-inside-is)
          (in_order (c.get_mut.follows.lender v).entries
          (subst HaveTheirKeys (sym (c.get_mut.follows.holds v).0)
          (keys_of_value es (is_at (stored_cmp c.set_key.result)) w.in-Some.set.now v c.self.invariant (sym w.in-Some.ensures.value) (ap set_place w.set_records.ensures)))
          (c.get_mut.follows.holds v).4)
      | in_default w ↦
          subst (λ (x : Inside). AreInOrder (values x.map)) (sym w.self-inside-is)
          (subst (λ m. AreInOrder (values m)) (sym c.get_mut.follows.holds-at-none) (in_order es c.self.invariant c.get_mut.ensures.ordered))
    ]
