use Rattle.std.proofs.Common.{◌≡◌, ◌∙◌, cond, List, ap, sym, subst, Some, None}
use Rattle.std.proofs.lemmas.Result.{on_ok_weaker}
use Rattle.std.specs.BTreeMap.{is_at, values}
use Rattle.std.specs.Map.{values_of}
use Rattle.std.specs.Ordering.{eq_by_cmp}
use Rattle.dns_records.specs.RecordSet.{RecordSetValue, put, record_data}
use Rattle.dns_zone.specs.Rows.{Key, key, key_cmp}
use Rattle.dns_zone.specs.Sets.{set_at, set_place, with_put, AreInOrder, HaveTheirKeys}
use Rattle.dns_zone.specs.declared.sets.ZoneSets.TheInside.{Inside}
use Rattle.dns_wire.proofs.StoredLaws.{on_err}
use Rattle.dns_zone.proofs.SetLaws.{Entries, stored_cmp, found_at, in_order}
use Rattle.dns_zone.proofs.SingleLaws.{either, err_weaker, none_put, put_at, same_at}
use Rattle.dns_zone.proofs.StoreLaws.{keys_of_value, value_at}
use Rattle.dns_zone.proofs.sets.ZoneSets.put_record.Goals as goal
use Rattle.dns_zone.proofs.sets.ZoneSets.put_record.Goals.{in-Some, in-None}

pub invariant_of-self : goal.invariant_of-self
invariant_of-self c =
    let es : Entries = c.self.inside.map.entries in
    elim c.match-get_mut.branch [
      | in-Some w ↦
          let v = w.put_record.new.self in
          let old : RecordSetValue = w.in-Some.set.now in
          let place = ap set_place (either w.put_record.result v old (put record_data old.records c.args.resource_record) w.put_record.ensures.ok w.put_record.ensures.err).1 in
          subst (λ (x : Inside). HaveTheirKeys x.map.entries) (sym w.self-inside-is)
          (subst HaveTheirKeys (sym (c.get_mut.follows.holds v).0)
          (keys_of_value es (is_at (stored_cmp c.set_key.result)) old v c.self.invariant (sym w.in-Some.ensures.value) place))
      | in-None w ↦
          subst (λ (x : Inside). HaveTheirKeys x.map.entries) (sym w.self-inside-is)
          (subst (λ m. HaveTheirKeys m.entries) (sym c.get_mut.follows.holds-at-none) c.self.invariant)
    ]

pub returns-clause-ok : goal.returns-clause-ok
returns-clause-ok c =
    let es : Entries = c.self.inside.map.entries in
    let K : Key = key c.args.owner.now.labels c.args.record_type in
    let there = found_at es c.set_key.result c.args.owner.now.labels c.args.record_type c.self.invariant (λ i. (c.set_key.ensures.owner i, c.set_key.ensures.of_type i)) in
    elim c.match-get_mut.branch [
      | in-Some w ↦
          let v = w.put_record.new.self in
          let old : RecordSetValue = w.in-Some.set.now in
          let found : set_at (values_of es) K ≡ Some old = sym there ∙ sym w.in-Some.ensures.value in
          rw w.result-is (on_ok_weaker w.put_record.result (λ e k.
          ap (λ (x : Inside). set_at (values x.map) k) w.self-inside-is
          ∙ ap (λ (l : Entries). set_at (values_of l) k) (c.get_mut.follows.holds v).0
          ∙ value_at es c.set_key.result c.args.owner.now.labels c.args.record_type old (put record_data old.records c.args.resource_record) v k c.self.invariant
          (λ i. (c.set_key.ensures.owner i, c.set_key.ensures.of_type i)) (sym w.in-Some.ensures.value) e
          ∙ put_at (values_of es) K k old c.args.resource_record found
          ∙ ap (λ (sets : List RecordSetValue). cond (eq_by_cmp key_cmp k K) (with_put c.args.resource_record (set_at sets k)) (set_at sets k)) c.self.view_is)
          w.put_record.ensures.ok)
      | in-None w ↦
          let none : set_at c.args.self.now K ≡ None = ap (λ (sets : List RecordSetValue). set_at sets K) (sym c.self.view_is) ∙ sym there ∙ sym w.in-None.ensures.value in
          rw w.result-is (λ k.
          ap (λ (x : Inside). set_at (values x.map) k) w.self-inside-is
          ∙ ap (λ m. set_at (values m) k) c.get_mut.follows.holds-at-none
          ∙ ap (λ (sets : List RecordSetValue). set_at sets k) c.self.view_is
          ∙ none_put c.args.self.now K k c.args.resource_record none)
    ]

pub returns-clause-err : goal.returns-clause-err
returns-clause-err c =
    let es : Entries = c.self.inside.map.entries in
    let K : Key = key c.args.owner.now.labels c.args.record_type in
    let there = found_at es c.set_key.result c.args.owner.now.labels c.args.record_type c.self.invariant (λ i. (c.set_key.ensures.owner i, c.set_key.ensures.of_type i)) in
    elim c.match-get_mut.branch [
      | in-Some w ↦
          let v = w.put_record.new.self in
          let old : RecordSetValue = w.in-Some.set.now in
          let found : set_at (values_of es) K ≡ Some old = sym there ∙ sym w.in-Some.ensures.value in
          rw w.result-is (err_weaker w.put_record.result (λ e k.
          ap (λ (x : Inside). set_at (values x.map) k) w.self-inside-is
          ∙ ap (λ (l : Entries). set_at (values_of l) k) (c.get_mut.follows.holds v).0
          ∙ value_at es c.set_key.result c.args.owner.now.labels c.args.record_type old old.records v k c.self.invariant
          (λ i. (c.set_key.ensures.owner i, c.set_key.ensures.of_type i)) (sym w.in-Some.ensures.value) e
          ∙ same_at (values_of es) K k old found
          ∙ ap (λ (sets : List RecordSetValue). set_at sets k) c.self.view_is)
          w.put_record.ensures.err)
      | in-None w ↦
          on_err c.match-get_mut.result (λ k.
          ap (λ (x : Inside). set_at (values x.map) k) w.self-inside-is
          ∙ ap (λ m. set_at (values m) k) c.get_mut.follows.holds-at-none
          ∙ ap (λ (sets : List RecordSetValue). set_at sets k) c.self.view_is)
    ]

pub returns-clause-ordered : goal.returns-clause-ordered
returns-clause-ordered c =
    let es : Entries = c.self.inside.map.entries in
    elim c.match-get_mut.branch [
      | in-Some w ↦
          let v = w.put_record.new.self in
          let old : RecordSetValue = w.in-Some.set.now in
          let place = ap set_place (either w.put_record.result v old (put record_data old.records c.args.resource_record) w.put_record.ensures.ok w.put_record.ensures.err).1 in
          subst (λ (x : Inside). AreInOrder (values x.map)) (sym w.self-inside-is)
          (in_order (c.get_mut.follows.lender v).entries
          (subst HaveTheirKeys (sym (c.get_mut.follows.holds v).0)
          (keys_of_value es (is_at (stored_cmp c.set_key.result)) old v c.self.invariant (sym w.in-Some.ensures.value) place))
          (c.get_mut.follows.holds v).4)
      | in-None w ↦
          subst (λ (x : Inside). AreInOrder (values x.map)) (sym w.self-inside-is)
          (subst (λ m. AreInOrder (values m)) (sym c.get_mut.follows.holds-at-none) (in_order es c.self.invariant c.get_mut.ensures.ordered))
    ]
