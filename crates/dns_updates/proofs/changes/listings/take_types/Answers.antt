use Rattle.std.proofs.Common.{◌∙◌, ap}
use Rattle.dns_updates.specs.internal.Indexes.{is_in_listing}
use Rattle.dns_updates.proofs.ListingLaws.{types_taken}
use Rattle.dns_updates.proofs.changes.listings.take_types.Goals as goal

pub returns-in-Some-clause-found : goal.returns-in-Some-clause-found
returns-in-Some-clause-found g c =
    types_taken (g.Z.ZoneRows.rows c.args.zone.now) c.args.types.now c.args.owner.now.labels c.in_ok-found.found.items
    (λ k here e. c.in_ok-found.ensures k here (ap (is_in_listing (g.Z.ZoneRows.rows c.args.zone.now) k) c.in-Some.ensures.value ∙ e))

pub returns-clause-found : goal.returns-clause-found
returns-clause-found g c =
    types_taken (g.Z.ZoneRows.rows c.args.zone.now) c.args.types.now c.args.owner.now.labels c.in_ok-found-2.found.items
    (λ k here e. c.in_ok-found-2.ensures k here (ap (is_in_listing (g.Z.ZoneRows.rows c.args.zone.now) k) c.in_default.ensures.value ∙ e))
