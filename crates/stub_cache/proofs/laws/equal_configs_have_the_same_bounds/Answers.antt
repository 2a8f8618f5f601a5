use Rattle.stub_cache.proofs.BoundsLaws.{config_same, same_is_equal}
use Rattle.stub_cache.proofs.laws.equal_configs_have_the_same_bounds.Goals as goal

pub returns : goal.returns
returns c config other = (config_same config other, same_is_equal config other)
