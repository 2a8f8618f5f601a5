-- A session before its first lookup, and lookups of addresses.
use Rattle.std.proofs.Common.{◌≡◌, Bool, true, false, ℕ, Option, Result, Ok, Err, IsErrOf, IsOkAnd, refl, sym, subst, ap, ◌∙◌}
use Rattle.std.specs.declared.net.ip_addr.IpAddr.{IpAddr}
use Rattle.dns_names.specs.Name.{DomainName}
use Rattle.dns_names.specs.declared.error.ParseError.{ParseError}
use Rattle.stub_client.specs.Handle.{Behavior}
use Rattle.stub_client.specs.Looks.{Reply}
use Rattle.stub_config.specs.declared.config.ResolverConfig.{ResolverConfig}
use Rattle.stub_config.specs.declared.options.ResolverOpts.{ResolverOpts}
use Rattle.stub_core.specs.Resolver.{ResolvesHost}
use Rattle.stub_core.specs.ResolverBuilder.{Builds, default_settings, empty_cache, with_options, with_used_hosts}
use Rattle.stub_core.specs.declared.resolver.Resolver.{Resolver}
use Rattle.stub_core.specs.declared.resolver.builder.ResolverBuilder.{ResolverBuilder}
use Rattle.stub_core.specs.declared.resolver.settings.Settings.{Settings}
use Rattle.stub_hosts.specs.Hosts.{HostsContent}
use Rattle.stub_lookup.specs.declared.error.NetError.{NetError}
use Rattle.stub_lookup.specs.declared.error.NetError.TheVariants.{Unsupported}
use Rattle.stub_net.specs.declared.pool.NameServerPool.{NameServerPool}
use Rattle.stub_net.specs.declared.scrub.Scrubber.{Scrubber}
use Rattle.stub_servers.specs.Servers.{Servers}
use Rattle.lookup_cli.specs.Session.{IsNewSession, IsPool, servers_by}

-- a reply with the same value
pub same_reply : {H : Type 0} (gives : Behavior H) (now : ℕ) (is_ip : Option IpAddr → Type 0) (name : Result DomainName ParseError) (old new : Resolver H) (one other : Reply)
    → other ≡ one → ResolvesHost gives now is_ip name old one new → ResolvesHost gives now is_ip name old other new
same_reply gives now is_ip name old new one other same resolves = subst (λ (r : Reply). ResolvesHost gives now is_ip name old r new) (sym same) resolves

one_error : {A E : Type 0} (r : Result A E) (e one : E) → r ≡ Err e → r ≡ Err one → e ≡ one
one_error r e one is other = cc

one_value : {A E : Type 0} (r : Result A E) (x a : A) → r ≡ Ok x → r ≡ Ok a → x ≡ a
one_value r x a one is = cc

module _ {A : Type 0} (Good : A → Type 0) where
  -- the only error of a builder is that of options that no resolver has
  pub only_fault : (b : Bool) (r : Result A NetError) (error : NetError) → (b ≡ true → IsErrOf r Unsupported) → (b ≡ false → IsOkAnd r Good) → r ≡ Err error
      → (error ≡ Unsupported) × (b ≡ true)
  only_fault true r error refuses builds is = (one_error r error Unsupported is (refuses refl), refl)
  only_fault false (Err e) error refuses builds is = absurd (builds refl)
  only_fault false (Ok a) error refuses builds is = absurd (cc)

  -- what it builds is good
  pub what_is_built : (b : Bool) (r : Result A NetError) (a : A) → (b ≡ true → IsErrOf r Unsupported) → (b ≡ false → IsOkAnd r Good) → r ≡ Ok a → Good a
  what_is_built true r a refuses builds is = absurd (never r (refuses refl) is) where
    never : (r : Result A NetError) → r ≡ Err Unsupported → r ≡ Ok a → ⊥
    never (Err e) one other = cc
    never (Ok x) one other = cc
  what_is_built false (Ok x) a refuses builds is = subst Good (one_value (Ok x) x a refl is) (builds refl)
  what_is_built false (Err e) a refuses builds is = absurd (builds refl)

-- the settings that a session is built with
abbrev pub settings_of : ResolverConfig → ResolverOpts → HostsContent → Settings
settings_of config options hosts = record { config = config; options = options; hosts = hosts }

-- a builder over a handle, with options and hosts
module _ {H : Type 0} (config : ResolverConfig) (options : ResolverOpts) (hosts : HostsContent) (one two three : ResolverBuilder H)
    (second : two ≡ with_options one options) (third : three ≡ record two { settings = record two.settings { hosts = hosts } }) where
  pub built_settings : one.settings ≡ default_settings config → three.settings ≡ settings_of config options hosts
  built_settings first =
      ap (λ (b : ResolverBuilder H). b.settings) third ∙ ap (λ (b : ResolverBuilder H). settings_of b.settings.config b.settings.options hosts) second
      ∙ ap (λ (s : Settings). settings_of s.config options hosts) first

  pub built_handle : (handle : H) → one.handle ≡ handle → three.handle ≡ handle
  built_handle handle first =
      ap (λ (b : ResolverBuilder H). b.handle) third ∙ ap (λ (b : ResolverBuilder H). b.handle) second ∙ first

-- a resolver that is built over a pool makes a new session
pub new_session : {N I : Type 0} (network : N) (ids : I) (config : ResolverConfig) (options : ResolverOpts) (timeout : ℕ) (alone : Bool) (hosts : HostsContent)
    (builder : ResolverBuilder (Scrubber (NameServerPool N I))) (handle : Scrubber (NameServerPool N I)) (pool : NameServerPool N I) (servers : Servers)
    (resolver : Resolver (Scrubber (NameServerPool N I)))
    → builder.settings ≡ settings_of config options hosts → builder.handle ≡ handle → handle.handle ≡ pool → servers ≡ servers_by config options
    → IsPool network ids servers options timeout alone pool → Builds builder resolver
    → IsNewSession network ids config options timeout alone hosts (record { resolver = resolver })
new_session {N} {I} network ids config options timeout alone hosts builder handle pool servers resolver settings is_handle is_pool same is built = record {
  config_is = ap (λ (s : Settings). s.config) (built.settings ∙ ap with_used_hosts settings);
  options_are = ap (λ (s : Settings). s.options) (built.settings ∙ ap with_used_hosts settings);
  hosts_are = ap (λ (s : Settings). s.hosts) (built.settings ∙ ap with_used_hosts settings);
  cache = built.cache ∙ ap (λ (s : Settings). empty_cache s.options) settings;
  aliases = built.aliases ∙ ap (λ (s : Settings). s.options.preserve_intermediates) settings;
  pool = subst (IsPool network ids (servers_by config options) options timeout alone) (sym (ap (λ (h : Scrubber (NameServerPool N I)). h.handle) (built.handle ∙ is_handle) ∙ is_pool))
      (subst (λ (ss : Servers). IsPool network ids ss options timeout alone pool) same is);
}
