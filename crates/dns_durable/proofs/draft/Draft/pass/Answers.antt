use Rattle.std.proofs.Common.{◌≡◌, ◌∙◌, sym, subst, ap}
use Rattle.dns_updates.specs.Keys.{Place, owner_code, type_code}
use Rattle.dns_zone.specs.Sets.{set_place}
use Rattle.dns_durable.specs.declared.draft.Draft.{Draft}
use Rattle.dns_durable.specs.internal.Drafting.{Passes}
use Rattle.dns_durable.proofs.DraftStepLaws.{passes_ahead, passes_written}
use Rattle.dns_durable.proofs.draft.Draft.pass.Goals.{then-not-contains+in_ok-write_set, else-not-contains}
use Rattle.dns_durable.proofs.draft.Draft.pass.Goals as goal

pub returns : goal.returns
returns c =
    let set = c.args.set.now in
    let d = c.args.self.now in
    let p : Place = c.set_key-key.result in
    let at : p ≡ set_place set = λ i. ((c.set_key-key.ensures.owner ∙ ap (λ n. owner_code n.labels) c.name.ensures) i, (c.set_key-key.ensures.of_type ∙ ap type_code c.record_type.ensures) i) in
    elim c.if-not-contains.branch [
      | then-not-contains+in_ok-write_set w ↦ subst (λ (x : Draft). Passes set d (record x { place = p })) (sym w.self-is)
          (passes_written set d w.write_set.new.self p c.contains.result at c.contains.ensures w.if-not-contains.true w.in_ok-write_set.ensures)
      | else-not-contains w ↦ subst (λ (x : Draft). Passes set d (record x { place = p })) (sym w.self-is)
          (passes_ahead set d p c.contains.result at c.contains.ensures w.if-not-contains.false)
    ]
