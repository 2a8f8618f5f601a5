use Rattle.std.proofs.Common.{Ok, refl}
use Rattle.stub_laws.proofs.FaithfulLaws.{ask-made}
use Rattle.stub_laws.proofs.history.laws.asking.replies_are_made_for_open_questions.Goals as goal

pub returns : goal.returns
returns c = λ origin m q old new response later f x only once.
    ask-made c.updates_keep_zones_well_formed.ensures origin old f m (Ok response) new x q later only once response refl
