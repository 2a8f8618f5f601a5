use Rattle.stub_laws.proofs.FaithfulLaws.{update-code}
use Rattle.stub_laws.proofs.history.laws.asking.updates_have_the_code_of_a_delivery.Goals as goal

pub returns : goal.returns
returns c = λ origin update old new code f u x memory.
    update-code c.updates_keep_zones_well_formed.ensures origin old f update u code new x memory
