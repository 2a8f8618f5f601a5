use Rattle.stub_laws.proofs.StandLaws.{names-lower}
use Rattle.stub_laws.proofs.Spelling.{flags-of}
use Rattle.stub_laws.proofs.WalkLaws.{walk-respelled}
use Rattle.stub_laws.proofs.walk.laws.walks.walks_ignore_spelling.Goals as goal

pub returns : goal.returns
returns c = λ zone one other budget from to conclusion number same walk.
    walk-respelled zone one other number to (flags-of from to same) (names-lower from to same) walk
