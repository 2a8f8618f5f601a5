use Rattle.stub_laws.proofs.FaithfulLaws.{update-stays}
use Rattle.stub_laws.proofs.history.laws.asking.updates_keep_states_faithful.Goals as goal

pub returns : goal.returns
returns c = λ origin update old new reply f u x. update-stays c.updates_keep_zones_well_formed.ensures origin old f update u reply new x
