use Rattle.stub_laws.proofs.ReceivedLaws.{received-rows}
use Rattle.stub_laws.proofs.answers.laws.sources.answers_that_stood_are_rows.Goals as goal

pub returns : goal.returns
returns c = λ origin history now asks zones answered. received-rows c.answers_are_alias_chains.ensures origin history zones now asks answered
