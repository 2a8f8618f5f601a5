use Rattle.std.proofs.Common.{◌∙◌, ap, cond, Some}
use Rattle.std.specs.Option.{option_map}
use Rattle.dns_updates.specs.Keys.{Place}
use Rattle.dns_updates.specs.internal.Required.{data_at, is_place, lent}
use Rattle.dns_updates.proofs.RequiredLaws.{map_of_cond}
use Rattle.dns_updates.proofs.code.required_data.RequiredData.put.Goals as goal

pub returns : goal.returns
returns c = λ p.
    ap (option_map (λ ds. lent ds.items)) (c.in_ok-insert.ensures.updates.0 p)
    ∙ map_of_cond (λ ds. lent ds.items) _ (Some c.args.required) _
    ∙ ap (λ (own : Place). cond (is_place own p) (Some (lent c.args.required.items)) (data_at c.args.self.now p)) (λ i. (c.set_key.ensures.owner i, c.set_key.ensures.of_type i))
