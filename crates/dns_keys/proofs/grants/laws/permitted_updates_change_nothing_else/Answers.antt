use Rattle.dns_keys.proofs.GrantLaws.{nothing_else}
use Rattle.dns_keys.proofs.grants.laws.permitted_updates_change_nothing_else.Goals as goal

pub returns : goal.returns
returns c = λ grants name origin rows update at permitted closed.
    nothing_else c.zone_of_ignores_case.ensures c.equal_labels_have_equal_lowercase.ensures grants name origin update.authorities rows at permitted closed
