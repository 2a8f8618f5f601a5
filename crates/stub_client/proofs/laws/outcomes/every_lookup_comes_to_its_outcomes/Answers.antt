use Rattle.stub_client.proofs.OutcomesLaws.{outcomes-come, outcomes-come-with}
use Rattle.stub_client.proofs.laws.outcomes.every_lookup_comes_to_its_outcomes.Goals as goal

pub returns-clause-among : goal.returns-clause-among
returns-clause-among c = λ all settings now old q asks reply new looks off end are holds.
    outcomes-come settings asks all are end now old q reply new off holds looks

pub returns-clause-added : goal.returns-clause-added
returns-clause-added c = λ earlier settings now old q asks reply new looks off end holds.
    outcomes-come-with settings asks earlier end now old q reply new off holds looks
