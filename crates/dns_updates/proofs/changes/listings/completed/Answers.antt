use Rattle.std.proofs.Common.{◌∙◌, ◌++◌, ap, List}
use Rattle.dns_wire.specs.declared.codes.record_type.RecordType.{RecordType}
use Rattle.dns_updates.specs.Sets.{is_key_among}
use Rattle.dns_updates.proofs.ListingLaws.{listing_whole, listing_completed}
use Rattle.dns_updates.proofs.changes.listings.completed.Goals as goal

pub returns-then-is_complete : goal.returns-then-is_complete
returns-then-is_complete g c = λ k here h.
    listing_whole (g.Z.ZoneRows.rows c.args.zone.now) c.args.owner.now.labels c.args.listing c.if-is_complete.true k here h

pub returns : goal.returns
returns g c = λ k here h.
    ap (λ (ts : List RecordType). is_key_among c.args.owner.now.labels ts k) c.in_ok-extend_from_slice.ensures.items
    ∙ ap (λ (ts : List RecordType). is_key_among c.args.owner.now.labels (c.args.listing.types.items ++ ts) k) c.as_slice.ensures.value
    ∙ listing_completed (g.Z.ZoneRows.rows c.args.zone.now) c.args.owner.now.labels c.args.listing c.in_ok-more.more.items c.in_ok-more.ensures k here h
