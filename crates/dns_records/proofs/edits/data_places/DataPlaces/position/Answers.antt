use Rattle.std.proofs.Common.{◌∙◌}
use Rattle.dns_records.proofs.EntryLaws.{position_entered}
use Rattle.dns_records.proofs.edits.data_places.DataPlaces.position.Goals as goal

pub returns-then-self : goal.returns-then-self
returns-then-self c =
    c.copied.ensures ∙ c.get.ensures.value ∙ position_entered c.args.self.now.entries c.args.places.now c.args.rdata.now (c.requires.has_places c.if-self.true)
