use Rattle.stub_laws.proofs.ComingLaws.{short-at}
use Rattle.stub_laws.proofs.walk.laws.lookups.short_aliases_are_short_at_each_name.Goals as goal

pub returns : goal.returns
returns c = short-at
