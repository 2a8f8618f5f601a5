-- The default options of a resolver.
use Rattle.std.specs.Prelude.{[], true, false, None}
use Rattle.stub_config.specs.declared.options.ResolverOpts.{ResolverOpts}
use Rattle.stub_config.specs.declared.strategy.LookupIpStrategy.TheVariants.{Ipv6AndIpv4}
use Rattle.stub_config.specs.declared.strategy.ResolveHosts.TheVariants.{Auto}
use Rattle.stub_config.specs.declared.strategy.ServerOrderingStrategy.TheVariants.{QueryStatistics}

-- the options of a resolver that sets none
abbrev pub default_options : ResolverOpts
default_options = record {
  ndots = 1;
  timeout = 5;
  attempts = 2;
  edns0 = true;
  ip_strategy = Ipv6AndIpv4;
  cache_size = 8192;
  use_hosts_file = Auto;
  positive_min_ttl = None;
  negative_min_ttl = None;
  positive_max_ttl = None;
  negative_max_ttl = None;
  num_concurrent_reqs = 2;
  max_active_requests = 32;
  preserve_intermediates = true;
  try_tcp_on_error = false;
  server_ordering_strategy = QueryStatistics;
  recursion_desired = true;
  avoid_local_udp_ports = record { keys = [] };
  os_port_selection = false;
  case_randomization = false;
  trust_anchor = None;
  allow_answers = [];
  deny_answers = [];
  edns_payload_len = 1232;
}
