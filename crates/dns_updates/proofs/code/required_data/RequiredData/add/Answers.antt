use Rattle.std.proofs.Common.{◌≡◌, ◌++◌, [], ◌∷◌, ◌∙◌, ap, unwrap_or, List}
use Rattle.std.proofs.lemmas.List.{map-append}
use Rattle.std.specs.Borrow.{Bor}
use Rattle.dns_data.specs.declared.rdata.RData.{RData}
use Rattle.dns_updates.specs.internal.Required.{all_data_at, lent, set_place}
use Rattle.dns_updates.proofs.RequiredLaws.{data_added}
use Rattle.dns_updates.proofs.code.required_data.RequiredData.add.Goals as goal

pub returns : goal.returns
returns c =
    let before : lent c.or_new-required.result.items ≡ all_data_at c.args.self.now (set_place c.args.owner.now.labels c.args.record_type) =
    c.or_new-required.ensures ∙ ap (λ o. unwrap_or o []) c.take-found.ensures.value in
    let after : lent c.push.new.self.items ≡ all_data_at c.args.self.now (set_place c.args.owner.now.labels c.args.record_type) ++ c.args.rdata.now ∷ [] =
    ap lent c.in_ok-push.ensures.items ∙ map-append (λ (d : Bor RData). d.now) c.or_new-required.result.items (c.args.rdata ∷ []) ∙ ap (λ (ds : List RData). ds ++ c.args.rdata.now ∷ []) before in
    data_added c.args.self.now c.take-found.new.self c.put.new.self (set_place c.args.owner.now.labels c.args.record_type) (lent c.push.new.self.items) c.args.rdata.now
    c.take-found.ensures.others c.in_ok-put.ensures after
