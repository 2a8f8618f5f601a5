use Rattle.stub_run.proofs.FreshRuns.{chain-run, fresh-run}
use Rattle.stub_run.proofs.laws.headline.every_record_stood.Goals as goal

pub returns-clause-fresh : goal.returns-clause-fresh
returns-clause-fresh c = λ content first last events reports states occasions zone begins order runs pasts once none.
    fresh-run c.updates_keep_zones_well_formed.ensures c.answers_are_alias_chains.ensures c.type_number_round_trips.ensures content first
    last events reports states zone begins order runs once none occasions pasts

pub returns-clause-chain_bound : goal.returns-clause-chain_bound
returns-clause-chain_bound c = λ content first last events reports states occasions zone begins order runs pasts once none off.
    chain-run c.updates_keep_zones_well_formed.ensures c.answers_are_alias_chains.ensures c.type_number_round_trips.ensures content first
    last events reports states zone begins order runs once none off occasions pasts
