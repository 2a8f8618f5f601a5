use Rattle.std.proofs.Common.{◌∙◌, ap, refl}
use Rattle.dns_updates.specs.internal.Indexes.{is_in_listing}
use Rattle.dns_updates.specs.declared.changes.owner_types.Listing.{Listing}
use Rattle.dns_updates.proofs.ListingLaws.{type_listed}
use Rattle.dns_updates.proofs.changes.listings.list_type.Goals as goal

pub returns : goal.returns
returns c = λ zone rows s listed.
    let l : Listing = record { types = c.push.new.self; is_complete = c.or_new-listing.result.is_complete } in
    type_listed zone rows c.args.types.now c.take-found.new.self c.put.new.self c.args.owner.now.labels l c.take-found.ensures.others c.in_ok-put.ensures listed c.args.record_type s c.or_new-listing.result
    (λ k. c.or_new-listing.ensures zone k ∙ ap (is_in_listing zone k) c.take-found.ensures.value)
    c.in_ok-push.ensures.items refl
