-- The definitions of a resolver, computed.
use Rattle.std.specs.Prelude.{◌≡◌, true, false, [], ◌∷◌, ℕ, Some, None, Err}
use Rattle.std.proofs.Common.{refl}
use Rattle.dns_wire.specs.declared.codes.record_type.RecordType.TheVariants as types
use Rattle.dns_names.specs.declared.error.ParseError.TheVariants as names
use Rattle.dns_names.specs.declared.reverse.AddrPrefix.{AddrPrefix}
use Rattle.stub_config.specs.Options.{default_options}
use Rattle.stub_config.specs.declared.config.ResolverConfig.{ResolverConfig}
use Rattle.stub_config.specs.declared.strategy.ResolveHosts.TheVariants.{Always, Auto, Never}
use Rattle.stub_lookup.specs.declared.error.NetError.TheVariants as errors
use Rattle.stub_hosts.specs.Hosts.{HostsContent}
use Rattle.stub_core.specs.Resolver.{is_tried_as_name, known_type, request_options, tries_literals, without_name}
use Rattle.stub_core.specs.ResolverBuilder.{default_settings, is_unsupported, no_hosts, used_hosts}
use Rattle.stub_core.specs.declared.resolver.settings.Settings.{Settings}

-- a type is taken by its number
known : known_type (types.Unknown 1) ≡ types.A
known = refl

other : known_type (types.Unknown 999) ≡ types.Unknown 999
other = refl

-- requests have an OPT record of 1,232 bytes and RD by default
usual : request_options default_options
    ≡ record { use_edns = true; edns_payload_len = 1232; edns_set_dnssec_ok = false; recursion_desired = true }
usual = refl

no_edns : (request_options (record default_options { edns0 = false })).use_edns ≡ false
no_edns = refl

-- the default options are supported; denied answers and random case are not
supported : is_unsupported default_options ≡ false
supported = refl

denied : (prefix : AddrPrefix) → is_unsupported (record default_options { deny_answers = prefix ∷ [] }) ≡ true
denied prefix = refl

random_case : is_unsupported (record default_options { case_randomization = true }) ≡ true
random_case = refl

-- a minimum TTL above its maximum is refused, also above the default maximum of one day
equal_bounds : is_unsupported (record default_options { positive_min_ttl = Some 7; positive_max_ttl = Some 7 }) ≡ false
equal_bounds = refl

reversed_bounds : is_unsupported (record default_options { positive_min_ttl = Some 8; positive_max_ttl = Some 7 }) ≡ true
reversed_bounds = refl

above_a_day : is_unsupported (record default_options { positive_min_ttl = Some 86401 }) ≡ true
above_a_day = refl

reversed_negative_bounds : is_unsupported (record default_options { negative_min_ttl = Some 1; negative_max_ttl = Some 0 }) ≡ true
reversed_negative_bounds = refl

-- hosts that are never looked up are left out
always : (hosts : HostsContent) → used_hosts Always hosts ≡ hosts
always hosts = refl

by_itself : (hosts : HostsContent) → used_hosts Auto hosts ≡ hosts
by_itself hosts = refl

never : (hosts : HostsContent) → used_hosts Never hosts ≡ no_hosts
never hosts = refl

-- a literal address that is a name is looked up where `ndots` is above 4
abbrev with_ndots : ResolverConfig → ℕ → Settings
with_ndots config ndots = record (default_settings config) { options = record default_options { ndots = ndots } }

four : (config : ResolverConfig) → tries_literals (with_ndots config 4) ≡ false
four config = refl

five : (config : ResolverConfig) → tries_literals (with_ndots config 5) ≡ true
five config = refl

not_a_name : (config : ResolverConfig) → is_tried_as_name (with_ndots config 5) (Err names.EmptyLabel) ≡ false
not_a_name config = refl

-- a text that is neither an address nor a name
refused : without_name names.EmptyLabel None 0 ≡ Err (errors.Proto names.EmptyLabel)
refused = refl
