use Rattle.stub_client.specs.Origins.{Brings, LeadsOn}
use Rattle.stub_client.proofs.OriginsLaws.{only-local}
use Rattle.stub_client.proofs.laws.origins.nothing_is_brought_without_questions.Goals as goal

pub returns : goal.returns
returns c = λ config q now r h. only-local (Brings config) LeadsOn h
