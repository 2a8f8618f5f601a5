-- The default options of a request.
use Rattle.std.specs.Prelude.{true, false}
use Rattle.stub_config.specs.declared.request_options.DnsRequestOptions.{DnsRequestOptions}

-- the options of a request that sets none
abbrev pub default_request_options : DnsRequestOptions
default_request_options = record {
  use_edns = false;
  edns_payload_len = 1232;
  edns_set_dnssec_ok = false;
  recursion_desired = true;
}
