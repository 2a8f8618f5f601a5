-- A resolver over the scripted link runs in the states without bytes.
use Rattle.std.proofs.Common.{ℕ, List, Some, Ok}
use Rattle.dns_zone.specs.Rows.{ZoneContent}
use Rattle.stub_config.specs.declared.config.ResolverConfig.{ResolverConfig}
use Rattle.stub_config.specs.declared.options.ResolverOpts.{ResolverOpts}
use Rattle.stub_hosts.specs.Hosts.{HostsContent}
use Rattle.stub_link.specs.LinkState.{first_link_state}
use Rattle.stub_link.specs.ScriptedLink.{IsAt}
use Rattle.stub_link.specs.declared.link.scripted.ScriptedLink.{ScriptedLink}
use Rattle.stub_run.specs.Run.{RunState}
use Rattle.stub_run.specs.Stepping.{RunsFrom}
use Rattle.stub_run.specs.World.{IsFirst, IsFirstOver}
use Rattle.stub_run.specs.declared.world.World.{World}
use Rattle.stub_run.proofs.Beginning.{world-begins}
use Rattle.stub_run.proofs.Happening.{AskLaw, UpdateLaw, WireResolver}
use Rattle.stub_run.proofs.Running.{reported, stopped}

-- a world of a resolver
abbrev world-of : WireResolver → World
world-of resolver = record { alloc = resolver.alloc; resolver = resolver }

pub first-runs : (asks : AskLaw) (updates : UpdateLaw) (zone : ZoneContent) (limit : ℕ) (ids : List ℕ) (config : ResolverConfig)
    (options : ResolverOpts) (hosts : HostsContent) (link : ScriptedLink) (resolver : WireResolver)
    → IsAt link (first_link_state zone limit) → IsFirstOver link ids config options hosts resolver
    → (state : RunState) × IsFirst zone limit ids config options hosts state × RunsFrom resolver state
first-runs asks updates zone limit ids config options hosts link resolver at first =
    let begun = world-begins zone limit ids config options hosts link (world-of resolver) at first in (
      begun.0,
      begun.1,
      record {
        runs = λ events report over. reported asks updates (world-of resolver) events (Ok report) over begun.0 begun.2;
        stops = λ events report over. stopped asks updates (world-of resolver) events (Some report) over begun.0 begun.2;
      },
    )
