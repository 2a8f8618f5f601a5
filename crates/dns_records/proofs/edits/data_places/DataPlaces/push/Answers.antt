use Rattle.std.proofs.Common.{◌++◌, ◌∷◌, [], Some, ap, is_some, length, refl, sym, ◌∙◌}
use Rattle.dns_records.proofs.EntryLaws.{complete_of, entry, position_entered, push_entered}
use Rattle.dns_records.proofs.edits.data_places.DataPlaces.push.Goals as goal

pub returns-in_ok-insert-clause-ok : goal.returns-in_ok-insert-clause-ok
returns-in_ok-insert-clause-ok c = λ added same.
    let has = c.requires.index.has_places c.if-self.true in
    complete_of _ (c.args.places.now ++ Some added ∷ [])
    (push_entered c.args.self.now.entries c.insert.new.self c.args.places.now c.in_ok-clone.field-0 added (length c.args.places.now) refl (c.in_ok-clone.ensures.ok ∙ sym same) has
    (ap is_some (ap (entry c.args.self.now.entries) same ∙ position_entered c.args.self.now.entries c.args.places.now c.args.rdata.now has ∙ c.requires.new)) c.in_ok-insert.ensures.updates)
