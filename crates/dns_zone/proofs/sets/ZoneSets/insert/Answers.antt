use Rattle.std.proofs.Common.{◌∙◌, List, Some, ap, cond, subst, sym}
use Rattle.std.specs.Map.{values_of}
use Rattle.dns_names.specs.Name.{DomainName}
use Rattle.dns_records.specs.RecordSet.{RecordSetValue}
use Rattle.dns_zone.specs.Rows.{set_key}
use Rattle.dns_updates.specs.Keys.{owner_code, type_code}
use Rattle.dns_zone.specs.Sets.{HaveTheirKeys, set_at}
use Rattle.dns_zone.proofs.RowLaws.{tied}
use Rattle.dns_zone.proofs.SetLaws.{Entries, found_at, in_order, inserted_at, keys_inserted}
use Rattle.dns_zone.proofs.sets.ZoneSets.insert.Goals as goal

pub returns-in_err-insert-clause-ordered : goal.returns-in_err-insert-clause-ordered
returns-in_err-insert-clause-ordered c =
    in_order c.insert.new.self.entries (subst HaveTheirKeys (sym c.in_err-insert.ensures.err) c.self.invariant) c.insert.ensures.ordered

pub invariant_of-self-2 : goal.invariant_of-self-2
invariant_of-self-2 c =
    let owner = c.set_key-key.ensures.owner ∙ ap (λ (name : DomainName). owner_code name.labels) c.name.ensures in
    let of_type = c.set_key-key.ensures.of_type ∙ ap type_code c.record_type.ensures in
    subst HaveTheirKeys (sym c.in_ok-insert.ensures.entries) (keys_inserted c.self.inside.map.entries c.set_key-key.result c.args.set c.self.invariant (λ i. (owner i, of_type i)))

pub returns-clause-old : goal.returns-clause-old
returns-clause-old c =
    let owner = c.set_key-key.ensures.owner ∙ ap (λ (name : DomainName). owner_code name.labels) c.name.ensures in
    let of_type = c.set_key-key.ensures.of_type ∙ ap type_code c.record_type.ensures in
    c.in_ok-insert.ensures.old
    ∙ found_at c.self.inside.map.entries c.set_key-key.result c.args.set.name.labels c.args.set.record_type c.self.invariant (λ i. (owner i, of_type i))
    ∙ ap (λ (sets : List RecordSetValue). set_at sets (set_key c.args.set)) c.self.view_is

pub returns-clause-ok : goal.returns-clause-ok
returns-clause-ok c = λ k.
    let owner = c.set_key-key.ensures.owner ∙ ap (λ (name : DomainName). owner_code name.labels) c.name.ensures in
    let of_type = c.set_key-key.ensures.of_type ∙ ap type_code c.record_type.ensures in
    ap (λ (es : Entries). set_at (values_of es) k) c.in_ok-insert.ensures.entries
    ∙ inserted_at c.self.inside.map.entries c.set_key-key.result c.args.set k c.self.invariant (λ i. (owner i, of_type i))
    ∙ ap (λ (sets : List RecordSetValue). cond (tied k c.args.set) (Some c.args.set) (set_at sets k)) c.self.view_is

pub returns-clause-ordered : goal.returns-clause-ordered
returns-clause-ordered c =
    let owner = c.set_key-key.ensures.owner ∙ ap (λ (name : DomainName). owner_code name.labels) c.name.ensures in
    let of_type = c.set_key-key.ensures.of_type ∙ ap type_code c.record_type.ensures in
    in_order c.insert.new.self.entries
    (subst HaveTheirKeys (sym c.in_ok-insert.ensures.entries) (keys_inserted c.self.inside.map.entries c.set_key-key.result c.args.set c.self.invariant (λ i. (owner i, of_type i))))
    c.insert.ensures.ordered
