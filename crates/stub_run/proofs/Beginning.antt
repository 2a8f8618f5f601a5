-- A world begins: nothing has happened to its link, its handle and its resolver.
use Rattle.std.proofs.Common.{◌≡◌, Bool, true, false, Result, Ok, Err, IsOkAnd, ℕ, List, [], refl, sym, ap, subst, ◌∙◌}
use Rattle.dns_zone.specs.Rows.{ZoneContent}
use Rattle.stub_config.specs.declared.config.ResolverConfig.{ResolverConfig}
use Rattle.stub_config.specs.declared.options.ResolverOpts.{ResolverOpts}
use Rattle.stub_hosts.specs.Hosts.{HostsContent}
use Rattle.stub_core.specs.ResolverBuilder.{Builds, default_settings, empty_cache, with_options, with_used_hosts}
use Rattle.stub_core.specs.declared.resolver.Resolver.{Resolver}
use Rattle.stub_core.specs.declared.resolver.builder.ResolverBuilder.{ResolverBuilder}
use Rattle.stub_core.specs.declared.resolver.settings.Settings.{Settings}
use Rattle.stub_link.specs.Ask.{Asker}
use Rattle.stub_link.specs.AskState.{first_asks}
use Rattle.stub_link.specs.LinkState.{first_link_state}
use Rattle.stub_link.specs.ScriptedLink.{IsAt}
use Rattle.stub_link.specs.WireHandle.{IsIn, asker_of}
use Rattle.stub_link.specs.declared.link.scripted.ScriptedLink.{ScriptedLink}
use Rattle.stub_link.specs.declared.wire_handle.WireHandle.{WireHandle}
use Rattle.stub_lookup.specs.declared.error.NetError.{NetError}
use Rattle.stub_run.specs.Run.{RunState}
use Rattle.stub_run.specs.World.{BeginsWith, IsFirst, IsFirstOver}
use Rattle.stub_run.specs.declared.world.World.{World}
use Rattle.stub_run.proofs.Happening.{Handle, WireResolver}

-- ---- the handle

is-in-first : (zone : ZoneContent) (limit : ℕ) (ids : List ℕ) (link : ScriptedLink) (handle : Handle)
    → IsAt link (first_link_state zone limit)
    → asker_of handle ≡ record { link = link; ids = ids; sent = []; dropped = 0; faults = 0; questions = 0 }
    → IsIn handle (first_asks zone limit ids)
is-in-first zone limit ids link handle at asker = record {
  link = subst (λ (l : ScriptedLink). IsAt l (first_link_state zone limit)) (sym (ap (λ (a : Asker ScriptedLink). a.link) asker)) at;
  shows = λ quiet. record {
    ids = ap (λ (a : Asker ScriptedLink). a.ids) asker;
    sent = ap (λ (a : Asker ScriptedLink). a.sent) asker;
    dropped = ap (λ (a : Asker ScriptedLink). a.dropped) asker;
    faults = ap (λ (a : Asker ScriptedLink). a.faults) asker;
    questions = ap (λ (a : Asker ScriptedLink). a.questions) asker;
  };
}

-- ---- the resolver

pub is-false : (b : Bool) → (b ≡ true → ⊥) → b ≡ false
is-false true h = absurd (h refl)
is-false false h = refl

pub ok-is-no-error : {A E : Type 0} (x : A) (e : E) → ◌≡◌ {A = Result A E} (Ok x) (Err e) → ⊥
ok-is-no-error x e h = absurd (cc)

abbrev pub settings_of : ResolverConfig → ResolverOpts → HostsContent → Settings
settings_of config options hosts = record { config = config; options = options; hosts = hosts }

module _ {L : Type 0} where
  abbrev pub with_hosts : ResolverBuilder (WireHandle L) → HostsContent → ResolverBuilder (WireHandle L)
  with_hosts builder hosts = record builder { settings = record builder.settings { hosts = hosts } }

  -- the settings of a builder that was given options and then hosts
  pub built-settings : (config : ResolverConfig) (options : ResolverOpts) (hosts : HostsContent) (first second third : ResolverBuilder (WireHandle L))
      → first.settings ≡ default_settings config → second ≡ with_options first options → third ≡ with_hosts second hosts
      → third.settings ≡ settings_of config options hosts
  built-settings config options hosts first second third is_first is_second is_third =
      ap (λ (b : ResolverBuilder (WireHandle L)). b.settings) is_third
      ∙ ap (λ (b : ResolverBuilder (WireHandle L)). record b.settings { hosts = hosts }) is_second
      ∙ ap (λ (s : Settings). record (record s { options = options }) { hosts = hosts }) is_first

  -- its handle
  pub built-handle : (options : ResolverOpts) (hosts : HostsContent) (handle : WireHandle L) (first second third : ResolverBuilder (WireHandle L))
      → first.handle ≡ handle → second ≡ with_options first options → third ≡ with_hosts second hosts → third.handle ≡ handle
  built-handle options hosts handle first second third is_first is_second is_third =
      ap (λ (b : ResolverBuilder (WireHandle L)). b.handle) is_third ∙ ap (λ (b : ResolverBuilder (WireHandle L)). b.handle) is_second ∙ is_first

  is-first-over : (link : L) (ids : List ℕ) (config : ResolverConfig) (options : ResolverOpts) (hosts : HostsContent)
      (handle : WireHandle L) (builder : ResolverBuilder (WireHandle L)) (resolver : Resolver (WireHandle L))
      → asker_of handle ≡ record { link = link; ids = ids; sent = []; dropped = 0; faults = 0; questions = 0 }
      → builder.settings ≡ settings_of config options hosts → builder.handle ≡ handle → Builds builder resolver
      → IsFirstOver link ids config options hosts resolver
  is-first-over link ids config options hosts handle builder resolver asker settings same builds = record {
    asker = ap (λ (h : WireHandle L). asker_of h) (builds.handle ∙ same) ∙ asker;
    settings = builds.settings ∙ ap with_used_hosts settings;
    cache = builds.cache ∙ ap (λ (s : Settings). empty_cache s.options) settings;
    aliases = builds.aliases ∙ ap (λ (s : Settings). s.options.preserve_intermediates) settings;
  }

  pub built : (link : L) (ids : List ℕ) (config : ResolverConfig) (options : ResolverOpts) (hosts : HostsContent)
      (handle : WireHandle L) (builder : ResolverBuilder (WireHandle L)) (result : Result (Resolver (WireHandle L)) NetError)
      → asker_of handle ≡ record { link = link; ids = ids; sent = []; dropped = 0; faults = 0; questions = 0 }
      → builder.settings ≡ settings_of config options hosts → builder.handle ≡ handle → IsOkAnd result (Builds builder)
      → IsOkAnd result (IsFirstOver link ids config options hosts)
  built link ids config options hosts handle builder (Ok resolver) asker settings same builds =
      is-first-over link ids config options hosts handle builder resolver asker settings same builds
  built link ids config options hosts handle builder (Err error) asker settings same builds = absurd builds

-- ---- the world

-- the state of a resolver that has asked nothing
abbrev pub first_state : ZoneContent → ℕ → List ℕ → WireResolver → RunState
first_state zone limit ids resolver = record {
  settings = resolver.settings;
  client = record {
    handle = first_asks zone limit ids;
    cache = resolver.client.cache;
    preserve_intermediates = resolver.client.preserve_intermediates;
    alloc = resolver.client.alloc;
  };
  alloc = resolver.alloc;
}

pub world-begins : (zone : ZoneContent) (limit : ℕ) (ids : List ℕ) (config : ResolverConfig) (options : ResolverOpts)
    (hosts : HostsContent) (link : ScriptedLink) (world : World) → IsAt link (first_link_state zone limit)
    → IsFirstOver link ids config options hosts world.resolver
    → (state : RunState) × IsFirst zone limit ids config options hosts state × BeginsWith world state
world-begins zone limit ids config options hosts link world at first =
    let resolver = world.resolver in (
      first_state zone limit ids resolver,
      record { asks = refl; settings = first.settings; cache = first.cache; aliases = first.aliases },
      record {
        alike = record {
          settings = refl;
          client = record { handle = is-in-first zone limit ids link resolver.client.handle at first.asker; cache = refl; aliases = refl };
        };
        memory = refl;
      },
    )
