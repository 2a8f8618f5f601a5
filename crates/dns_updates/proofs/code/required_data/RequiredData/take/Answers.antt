use Rattle.std.proofs.Common.{◌∙◌, ap, cond, None}
use Rattle.std.specs.Option.{option_map}
use Rattle.dns_updates.specs.Keys.{Place}
use Rattle.dns_updates.specs.internal.Required.{data_at, is_place, lent}
use Rattle.dns_updates.proofs.RequiredLaws.{map_of_cond}
use Rattle.dns_updates.proofs.code.required_data.RequiredData.take.Goals as goal

pub returns-clause-value : goal.returns-clause-value
returns-clause-value c =
    ap (option_map (λ ds. lent ds.items)) c.remove.ensures.value ∙ ap (data_at c.args.self.now) (λ i. (c.set_key.ensures.owner i, c.set_key.ensures.of_type i))

pub returns-clause-others : goal.returns-clause-others
returns-clause-others c = λ p.
    ap (option_map (λ ds. lent ds.items)) (c.remove.ensures.updates.0 p)
    ∙ map_of_cond (λ ds. lent ds.items) _ None _
    ∙ ap (λ (own : Place). cond (is_place own p) None (data_at c.args.self.now p)) (λ i. (c.set_key.ensures.owner i, c.set_key.ensures.of_type i))
