use Rattle.stub_run.proofs.FreshRuns.{chain-at-replies, fresh-at-replies}
use Rattle.stub_run.proofs.laws.replies.records_stood_at_replies.Goals as goal

pub returns-clause-fresh : goal.returns-clause-fresh
returns-clause-fresh c = λ content first last events reports states zone begins order runs once none.
    fresh-at-replies c.updates_keep_zones_well_formed.ensures c.answers_are_alias_chains.ensures c.type_number_round_trips.ensures content first
    last events reports states zone begins order runs once none

pub returns-clause-chain_bound : goal.returns-clause-chain_bound
returns-clause-chain_bound c = λ content first last events reports states zone begins order runs once none off.
    chain-at-replies c.updates_keep_zones_well_formed.ensures c.answers_are_alias_chains.ensures c.type_number_round_trips.ensures content first
    last events reports states zone begins order runs once none off
