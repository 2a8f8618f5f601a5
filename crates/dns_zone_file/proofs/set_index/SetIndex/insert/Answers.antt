use Rattle.std.proofs.Common.{◌≡◌, Some, None, refl, rules}
use Rattle.std.specs.HashMap as hash
use Rattle.dns_wire.proofs.StoredLaws.{on_err}
use Rattle.dns_wire.specs.codes.RecordType.{type_number}
use Rattle.dns_names.specs.Compare.{same_name}
use Rattle.dns_zone_file.proofs.SetIndexLaws.{placed, same_places, number_placed, none_at, same_at, others_by}
use Rattle.dns_zone_file.proofs.set_index.SetIndex.insert.Goals as goal

pub returns-in_err-insert-clause-err : goal.returns-in_err-insert-clause-err
returns-in_err-insert-clause-err c =
    let had : hash.get same_name c.args.self.now.owners c.args.owner.now ≡ Some c.in-Some.places.now = search rules in
    on_err c.from_residual.result
    (same_places c.args.self.now.owners (c.get_mut.follows.lender c.insert.new.self) c.args.owner.now (Some c.in-Some.places.now) c.insert.new.self had
    ((c.get_mut.follows.holds c.insert.new.self).3 (search rules)).0
    (same_at c.in-Some.places.now c.insert.new.self c.in_err-insert.ensures.err))

pub returns-in-Some-clause-ok : goal.returns-in-Some-clause-ok
returns-in-Some-clause-ok c =
    let had : hash.get same_name c.args.self.now.owners c.args.owner.now ≡ Some c.in-Some.places.now = search rules in
    placed c.args.self.now.owners (c.get_mut.follows.lender c.insert.new.self) c.args.owner.now (Some c.in-Some.places.now) c.insert.new.self (type_number c.args.record_type) c.args.place had
    ((c.get_mut.follows.holds c.insert.new.self).3 (search rules)).0
    (number_placed c.in-Some.places.now c.insert.new.self (Some c.in-Some.places.now) c.from-number.result (type_number c.args.record_type) c.args.place (search rules) c.in_ok-insert.ensures.updates (λ n. refl))

pub returns-clause-ok : goal.returns-clause-ok
returns-clause-ok c =
    let had : hash.get same_name c.args.self.now.owners c.args.owner.now ≡ None = search rules in
    placed c.args.self.now.owners c.insert-3.new.self c.args.owner.now None c.insert-2.new.self (type_number c.args.record_type) c.args.place had
    (others_by c.args.self.now.owners c.insert-3.new.self c.args.owner.now None c.insert-2.new.self c.get_mut.follows.lender-at-none c.in_ok-clone.field-0 c.get_mut.follows.holds-at-none (search rules) c.in_ok-insert-3.ensures.updates)
    (number_placed c.new-places.result c.insert-2.new.self None c.from-number.result (type_number c.args.record_type) c.args.place (search rules) c.in_ok-insert-2.ensures.updates (none_at c.new-places.result c.new-places.ensures.empty))
