use Rattle.std.proofs.Common.{◌∙◌}
use Rattle.dns_records.proofs.EntryLaws.{removed_index, position_entered}
use Rattle.dns_records.proofs.edits.data_places.DataPlaces.remove.Goals as goal

pub returns-clause-place : goal.returns-clause-place
returns-clause-place c =
    c.remove.ensures.value ∙ position_entered c.args.self.now.entries c.args.places.now c.args.rdata.now (c.requires.index.has_places c.requires.complete)

pub returns-clause-some : goal.returns-clause-some
returns-clause-some c =
    removed_index c.args.self.now (record c.args.self.now { entries = c.remove.new.self }) c.args.places.now c.args.rdata.now c.remove.result (c.requires.index.has_places c.requires.complete)
    c.remove.ensures.value c.remove.ensures.updates
