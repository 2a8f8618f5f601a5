-- Worlds: the state in which a run begins.
use Rattle.std.specs.Prelude.{◌≡◌, false, List, [], ℕ}
use Rattle.dns_zone.specs.Rows.{ZoneContent}
use Rattle.stub_config.specs.declared.config.ResolverConfig.{ResolverConfig}
use Rattle.stub_config.specs.declared.options.ResolverOpts.{ResolverOpts}
use Rattle.stub_hosts.specs.Hosts.{HostsContent}
use Rattle.stub_core.specs.ResolverBuilder.{empty_cache, with_used_hosts}
use Rattle.stub_core.specs.declared.resolver.Resolver.{Resolver}
use Rattle.stub_link.specs.AskState.{first_asks}
use Rattle.stub_link.specs.WireHandle.{IsIn, asker_of}
use Rattle.stub_link.specs.declared.wire_handle.WireHandle.{WireHandle}
use Rattle.stub_run.specs.Alike.{AreAlike}
use Rattle.stub_run.specs.Run.{RunState, asks_of}
use Rattle.stub_run.specs.declared.world.World.{World}

-- The first state of a run over a zone: nothing has happened, and the cache is empty.
pub record IsFirst (zone : ZoneContent) (limit : ℕ) (ids : List ℕ) (config : ResolverConfig) (options : ResolverOpts)
    (hosts : HostsContent) (state : RunState) : Type 0 where
  pub asks : asks_of state ≡ first_asks zone limit ids
  pub settings : state.settings ≡ with_used_hosts (record { config = config; options = options; hosts = hosts })
  pub cache : state.client.cache ≡ empty_cache options
  pub aliases : state.client.preserve_intermediates ≡ options.preserve_intermediates

-- a world in which a run begins with this state
pub record BeginsWith (world : World) (state : RunState) : Type 0 where
  pub alike : AreAlike (λ handle asks. IsIn handle asks) world.resolver state
  pub memory : (asks_of state).link.out_of_memory ≡ false

-- A resolver over any link begins: its handle has asked nothing, and its cache is empty.
pub record IsFirstOver {L : Type 0} (link : L) (ids : List ℕ) (config : ResolverConfig) (options : ResolverOpts)
    (hosts : HostsContent) (resolver : Resolver (WireHandle L)) : Type 0 where
  pub asker : asker_of resolver.client.handle
      ≡ record { link = link; ids = ids; sent = []; dropped = 0; faults = 0; questions = 0 }
  pub settings : resolver.settings ≡ with_used_hosts (record { config = config; options = options; hosts = hosts })
  pub cache : resolver.client.cache ≡ empty_cache options
  pub aliases : resolver.client.preserve_intermediates ≡ options.preserve_intermediates
