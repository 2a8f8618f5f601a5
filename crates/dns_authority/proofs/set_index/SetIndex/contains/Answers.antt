use Rattle.std.proofs.Common.{◌∙◌, ap}
use Rattle.std.specs.BTreeSet.{contains}
use Rattle.dns_updates.specs.Keys.{Place, place_cmp}
use Rattle.dns_authority.proofs.set_index.SetIndex.contains.Goals as goal

pub returns : goal.returns
returns c =
    c.contains.ensures
    ∙ ap (λ (p : Place). contains place_cmp c.args.self.now.keys p) (λ i. (c.set_key.ensures.owner i, c.set_key.ensures.of_type i))
