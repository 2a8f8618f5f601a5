use Rattle.stub_servers.proofs.LimitLaws.{within-limits}
use Rattle.stub_servers.proofs.resolv_conf.laws.configurations_are_within_limits.Goals as goal

pub returns : goal.returns
returns c = within-limits
