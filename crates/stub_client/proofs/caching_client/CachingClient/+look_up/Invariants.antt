use Rattle.std.proofs.Common.{◌-◌}
use Rattle.stub_client.proofs.caching_client.CachingClient.+look_up.Given as goal

abbrev pub decreases-look_up : goal.decreases-look_up
decreases-look_up g l = 7 - l.depth
