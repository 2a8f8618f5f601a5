-- The limits of resolv.conf(5).
use Rattle.std.specs.Prelude.{◌≤◌, length}
use Rattle.stub_servers.specs.declared.resolv_conf.conf.SystemConf.{SystemConf}

-- one to three name servers, ndots up to 15, a time-out of 1 to 30 seconds, and 1 to 5 attempts
pub record IsWithinLimits (conf : SystemConf) : Type 0 where
  pub a_server : 1 ≤ length conf.config.name_servers
  pub servers : length conf.config.name_servers ≤ 3
  pub ndots : conf.options.ndots ≤ 15
  pub a_second : 1 ≤ conf.options.timeout
  pub timeout : conf.options.timeout ≤ 30
  pub an_attempt : 1 ≤ conf.options.attempts
  pub attempts : conf.options.attempts ≤ 5
