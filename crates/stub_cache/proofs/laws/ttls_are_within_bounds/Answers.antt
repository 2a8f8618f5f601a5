use Rattle.stub_cache.proofs.BoundsLaws.{least_below, greatest_above, within_unchanged}
use Rattle.stub_cache.proofs.laws.ttls_are_within_bounds.Goals as goal

pub returns-clause-minimum : goal.returns-clause-minimum
returns-clause-minimum c = λ range ttl order. least_below range ttl order

pub returns-clause-maximum : goal.returns-clause-maximum
returns-clause-maximum c = λ range ttl. greatest_above range ttl

pub returns-clause-unchanged : goal.returns-clause-unchanged
returns-clause-unchanged c = λ range ttl low high. within_unchanged range ttl low high
