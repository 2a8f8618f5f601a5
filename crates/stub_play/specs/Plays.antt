-- What a run of the program's files comes to, and in which order its faults are looked for: the zone, the script's lines, the hosts, the
-- script's moments.
use Rattle.std.specs.Prelude.{◌≡◌, ◌≢◌, ◌<◌, ◌+◌, ◌⊎◌, false, true, List, [], ℕ, map, length, take, slice_get, slice_index, EachIndex, Option, Some, Result, Ok, Err, OnOk, IfErr, ⊤, string_bytes}
use Rattle.std.specs.Io.KnownBytes.{Appends}
use Rattle.dns_zone.specs.Rows.{ZoneContent}
use Rattle.dns_zone.specs.Load.{ReadsZoneIn}
use Rattle.dns_zone.specs.declared.zone.ZoneFault.{ZoneFault}
use Rattle.dns_zone.specs.declared.zone.ZoneFault.TheVariants as zones
use Rattle.stub_config.specs.Options.{default_options}
use Rattle.stub_config.specs.config.{config_of_servers}
use Rattle.stub_config.specs.declared.options.ResolverOpts.{ResolverOpts}
use Rattle.stub_hosts.specs.Hosts.{HostsContent, with_hosts}
use Rattle.stub_hosts.specs.HostsFile.{Host, ReadsLines, lines_of as hosts_lines}
use Rattle.stub_hosts.specs.declared.hosts.file.HostsFault.{HostsFault}
use Rattle.stub_core.specs.ResolverBuilder.{no_hosts}
use Rattle.stub_core.specs.declared.resolver.Resolver.{Resolver}
use Rattle.stub_link.specs.declared.wire_handle.WireHandle.{WireHandle}
use Rattle.stub_run.specs.Event.{AreHonest}
use Rattle.stub_run.specs.declared.event.Event.{Event}
use Rattle.stub_run.specs.declared.report.Report.{Report}
use Rattle.stub_run.specs.OneHistory.{HasOneHistory}
use Rattle.stub_run.specs.Run.{InOrder, RunState}
use Rattle.stub_run.specs.Headline.{AreFresh, HaveChainBounds, WorldContent}
use Rattle.stub_run.specs.RunOver.{IsReportBeforeOver, IsReportOver, LinkRules}
use Rattle.stub_run.specs.Steady.{AreSteady}
use Rattle.stub_run.specs.Walked.{AreWalked}
use Rattle.stub_run.specs.Whole.{AreWhole}
use Rattle.stub_run.specs.World.{IsFirst, IsFirstOver}
use Rattle.stub_play.specs.sockets.SocketLink.{socket_rules}
use Rattle.stub_play.specs.declared.sockets.socket_link.SocketLink.{SocketLink}
use Rattle.stub_script.specs.declared.script_text.ScriptFault.TheVariants as scripts
use Rattle.stub_script.specs.declared.script_text.ScriptText.{ScriptText}
use Rattle.stub_play.specs.declared.plays.Loaded.{Loaded}
use Rattle.stub_play.specs.declared.plays.fault.PlayFault.{PlayFault}
use Rattle.stub_play.specs.declared.plays.fault.PlayFault.TheVariants.{Zone, Script, Hosts, Sockets, Memory, Write}
use Rattle.stub_play.specs.declared.plays.input.PlayInput.{PlayInput}
use Rattle.stub_play.specs.report.Report.{report_text}
use Rattle.stub_script.specs.ScriptText.{IsScriptOf, contents_of, side_by_side}

-- ---- moments

-- the events before this one are in order, and with it they are not
pub record IsFirstOutOfOrder (events : List Event) (place : ℕ) : Type 0 where
  pub is_event : place < length events
  pub before : InOrder 0 (take place events)
  pub late : ¬ InOrder 0 (take (place + 1) events)

-- the events of a script, without their lines
abbrev pub events_of : List (ℕ × Event) → List Event
events_of = map (λ e. e.1)

-- the lines of a script's events
abbrev pub lines_of : List (ℕ × Event) → List ℕ
lines_of = map (λ e. e.0)

-- the line is that of the first event of a kind
abbrev pub IsLineOf : (List Event → ℕ → Type 0) → List (ℕ × Event) → ℕ → Type 0
IsLineOf IsFirst script line = (place : ℕ) × IsFirst (events_of script) place × (slice_get (lines_of script) place ≡ Some line)

-- the line is that of the first event whose moment is out of order
abbrev pub IsLineOutOfOrder : List (ℕ × Event) → ℕ → Type 0
IsLineOutOfOrder = IsLineOf IsFirstOutOfOrder

-- ---- link scripts

-- the link follows a script during this event, and not during those before
pub record IsFirstListed (events : List Event) (place : ℕ) : Type 0 where
  pub is_event : place < length events
  pub before : AreHonest (take place events)
  pub listed : ¬ AreHonest (take (place + 1) events)

-- the line is that of the first event with link words other than `honest`
abbrev pub IsLineListed : List (ℕ × Event) → ℕ → Type 0
IsLineListed = IsLineOf IsFirstListed

-- ---- the files

-- the zone of a run, or its first fault; the zone file has the types of the input, and includes no text
abbrev pub ZoneIs : PlayInput → Result ZoneContent ZoneFault → Type 0
ZoneIs input outcome = ReadsZoneIn input.types [] input.origin (string_bytes input.zone) outcome

-- the zone can be read
abbrev pub IsZone : PlayInput → Type 0
IsZone input = (zone : ZoneContent) × ZoneIs input (Ok zone)

-- the events of the script, each with its line; the zone's origin completes the names of updates
abbrev pub ScriptIs : PlayInput → ZoneContent → List (ℕ × Event) → Type 0
ScriptIs input zone script = IsScriptOf input.types zone.origin (string_bytes input.script) (Ok (contents_of script))

-- over sockets, which follow no script, no event has link words other than `honest`
abbrev pub IsUsable : PlayInput → List (ℕ × Event) → Type 0
IsUsable input script = input.udp ≡ true → AreHonest (events_of script)

-- the zone and the script can be read
abbrev pub IsScript : PlayInput → Type 0
IsScript input =
    (zone : ZoneContent) × (script : List (ℕ × Event)) × ZoneIs input (Ok zone) × ScriptIs input zone script × IsUsable input script

-- the hosts of a hosts file, or its first fault
abbrev pub HostsAre : List ℕ → Result HostsContent HostsFault → Type 0
HostsAre src (Ok hosts) = (read : List Host) × ReadsLines (hosts_lines src) read (Ok tt) × (hosts ≡ with_hosts 0 no_hosts read)
HostsAre src (Err fault) = (read : List Host) × ReadsLines (hosts_lines src) read (Err fault)

-- the files can be read
pub record HasFiles (input : PlayInput) : Type 0 where
  pub zone : ZoneContent
  pub script : List (ℕ × Event)
  pub hosts : HostsContent
  pub is_zone : ZoneIs input (Ok zone)
  pub is_script : ScriptIs input zone script
  pub usable : IsUsable input script
  pub are_hosts : HostsAre input.hosts.items (Ok hosts)

-- the files can be read, and the moments of the script are in order
pub record IsRead (input : PlayInput) : Type 0 where
  pub files : HasFiles input
  pub in_order : InOrder 0 (events_of files.script)

-- the events of a script, each with its line
abbrev pub numbered : ScriptText → List (ℕ × Event)
numbered script = side_by_side script.lines.items script.events.items

-- what is loaded is what the files hold
pub record IsLoaded (input : PlayInput) (loaded : Loaded) : Type 0 where
  pub zone : ZoneIs input (Ok loaded.zone)
  pub script : ScriptIs input loaded.zone (numbered loaded.script)
  pub beside : length loaded.script.lines.items ≡ length loaded.script.events.items
  pub usable : IsUsable input (numbered loaded.script)
  pub hosts : HostsAre input.hosts.items (Ok loaded.hosts)

-- ---- faults

-- the script's first line at fault: one that cannot be read; or else, over sockets, one with link words other than `honest`; or else, if
-- the hosts can be read, one whose moment is out of order
abbrev pub IsAtFault : PlayInput → ZoneContent → ℕ → Type 0
IsAtFault input zone line =
    IsScriptOf input.types zone.origin (string_bytes input.script) (Err (scripts.Line line))
    ⊎ (((script : List (ℕ × Event)) × ScriptIs input zone script × (input.udp ≡ true) × IsLineListed script line)
    ⊎ ((script : List (ℕ × Event)) × (hosts : HostsContent) × ScriptIs input zone script × IsUsable input script
    × HostsAre input.hosts.items (Ok hosts) × IsLineOutOfOrder script line))

-- what a fault says of the files
abbrev pub Faults : PlayInput → PlayFault → Type 0
Faults input (Zone fault) = fault ≢ zones.Memory → ZoneIs input (Err fault)
Faults input (Script line) = (zone : ZoneContent) × ZoneIs input (Ok zone) × IsAtFault input zone line
Faults input (Hosts fault) = IsScript input × HostsAre input.hosts.items (Err fault)
Faults input Sockets = (input.udp ≡ true) × HasFiles input
Faults input Memory = IsZone input
Faults input Write = IsRead input

-- a fault that is found before anything is printed
abbrev pub IsBeforeRun : PlayFault → Type 0
IsBeforeRun (Zone fault) = ⊤
IsBeforeRun (Script line) = ⊤
IsBeforeRun (Hosts fault) = ⊤
IsBeforeRun Sockets = ⊤
IsBeforeRun Memory = ⊥
IsBeforeRun Write = ⊥

-- a fault of the files, or want of memory
abbrev pub IsUnwritten : PlayFault → Type 0
IsUnwritten Write = ⊥
IsUnwritten fault = ⊤

-- ---- runs

-- the options of the resolver: aliases are not preserved, and the rest is as the arguments say or by default
abbrev pub play_options : PlayInput → ResolverOpts
play_options input = record default_options {
  preserve_intermediates = false;
  cache_size = input.cache;
  positive_max_ttl = Some input.max_ttl;
  edns_payload_len = input.limit;
}

-- the state in which a run begins: without domain and search list, and with the ids from 1 to 65,535
pub record IsStart (input : PlayInput) (zone : ZoneContent) (hosts : HostsContent) (state : RunState) : Type 0 where
  pub ids : List ℕ
  pub first : IsFirst zone input.limit ids (config_of_servers []) (play_options input) hosts state
  pub counted : EachIndex ids (λ k. slice_index ids k ≡ k + 1)
  pub all : length ids ≡ 65535

-- what the world of a run is made of
abbrev pub content_of : PlayInput → ZoneContent → List ℕ → HostsContent → WorldContent
content_of input zone ids hosts = record {
  zone = zone;
  limit = input.limit;
  ids = ids;
  config = config_of_servers [];
  options = play_options input;
  hosts = hosts;
}

-- The text of the report of a run of these events, with its one history. What it says of plain types is fresh, and has the chain bound
-- where no chain of aliases has passed seven links. What it says of any type is of whole sets and of negative answers that stood. Where
-- nothing was updated, these are of the zone as it is, and if the link met no fault either, they are what walks over the zone come to.
pub record Tells (input : PlayInput) (zone : ZoneContent) (events : List Event) (text : List ℕ) : Type 0 where
  pub hosts : HostsContent
  pub state : RunState
  pub report : Report
  pub is_zone : ZoneIs input (Ok zone)
  pub are_hosts : HostsAre input.hosts.items (Ok hosts)
  pub start : IsStart input zone hosts state
  pub is_text : text ≡ report_text input.types input.format events report.events.items
  pub history : HasOneHistory (content_of input zone start.ids hosts) state events report
  pub fresh : AreFresh (content_of input zone start.ids hosts) events report.events.items history.occasions
  pub chain_bound : HaveChainBounds (content_of input zone start.ids hosts) events report.events.items history.occasions
  pub whole : AreWhole (content_of input zone start.ids hosts) events report.events.items history.occasions
  pub steady : AreSteady (content_of input zone start.ids hosts) events report.events.items history.occasions
  pub walked : AreWalked (content_of input zone start.ids hosts) events report.events.items history.occasions

-- of all events of the script
abbrev pub TellsAllBy : (ZoneContent → List Event → List ℕ → Type 0) → PlayInput → List ℕ → Type 0
TellsAllBy tells input text =
    (zone : ZoneContent) × (script : List (ℕ × Event)) × ScriptIs input zone script × InOrder 0 (events_of script)
    × tells zone (events_of script) text

-- of those before memory ran out
abbrev pub TellsFirstBy : (ZoneContent → List Event → List ℕ → Type 0) → PlayInput → List ℕ → Type 0
TellsFirstBy tells input text =
    (zone : ZoneContent) × (script : List (ℕ × Event)) × (n : ℕ) × ScriptIs input zone script × InOrder 0 (events_of script)
    × ((n ≡ 0) ⊎ (n < length script)) × tells zone (take n (events_of script)) text

-- the text of a run of all events of the script, over a link that follows it
abbrev pub TellsAll : PlayInput → List ℕ → Type 0
TellsAll input = TellsAllBy (Tells input) input

-- the text of a run of the events before memory ran out, over a link that follows the script
abbrev pub TellsFirst : PlayInput → List ℕ → Type 0
TellsFirst input = TellsFirstBy (Tells input) input

-- ---- events, one after another

-- there is such a report of events, and its text was written
abbrev pub Told : (Report → Type 0) → PlayInput → List Event → Option (List ℕ) → Option (List ℕ) → Type 0
Told Is input events old new =
    (report : Report) × Is report × Appends old new (report_text input.types input.format events report.events.items)

-- Why not all events of a script were told: the moments are out of order, and nothing was written; or memory ran out, and what was
-- reported before was written; or it could not be written.
abbrev pub EndsEarly : {L : Type 0} → LinkRules L → PlayInput → ScriptText → Resolver (WireHandle L) → Type 0
    → Option (List ℕ) → Option (List ℕ) → PlayFault → Type 0
EndsEarly rules input script resolver same old new (Script line) = IsLineOutOfOrder (numbered script) line × same
EndsEarly rules input script resolver same old new Memory =
    InOrder 0 script.events.items
    × Told (IsReportBeforeOver rules resolver script.events.items) input script.events.items old new
EndsEarly rules input script resolver same old new Write = InOrder 0 script.events.items
EndsEarly rules input script resolver same old new fault = ⊥

-- The events of a script happen to a resolver over a link, and all of them are told, or not.
pub record AreTold {L : Type 0} (rules : LinkRules L) (input : PlayInput) (script : ScriptText) (resolver : Resolver (WireHandle L))
    (same : Type 0) (old new : Option (List ℕ)) (result : Result (Unit {0}) PlayFault) : Type 0 where
  pub order : OnOk result (InOrder 0 script.events.items)
  pub told : OnOk result (Told (IsReportOver rules resolver script.events.items) input script.events.items old new)
  pub early : IfErr result (EndsEarly rules input script resolver same old new)

-- a resolver over a link begins as the input says: without domain and search list, and with the ids from 1 to 65,535
pub record IsFirstOfPlay {L : Type 0} (input : PlayInput) (link : L) (hosts : HostsContent) (resolver : Resolver (WireHandle L))
    : Type 0 where
  pub ids : List ℕ
  pub first : IsFirstOver link ids (config_of_servers []) (play_options input) hosts resolver
  pub counted : EachIndex ids (λ k. slice_index ids k ≡ k + 1)
  pub all : length ids ≡ 65535

-- there was no memory for the resolver; or one begins over the link, and the events of the script happen to it
abbrev pub IsPlayedOver : {L : Type 0} → LinkRules L → PlayInput → L → HostsContent → ScriptText → Type 0 → Option (List ℕ)
    → Option (List ℕ) → Result (Unit {0}) PlayFault → Type 0
IsPlayedOver {L} rules input link hosts script same old new result =
    ((result ≡ Err Memory) × same)
    ⊎ ((resolver : Resolver (WireHandle L)) × IsFirstOfPlay input link hosts resolver
    × AreTold rules input script resolver same old new result)

-- ---- runs over sockets

-- a resolver over sockets begins, whose server has the zone
pub record IsStartOver {R : Type 0} (input : PlayInput) (zone : ZoneContent) (hosts : HostsContent)
    (resolver : Resolver (WireHandle (SocketLink R))) : Type 0 where
  pub link : SocketLink R
  pub ids : List ℕ
  pub zone_is : link.zone ≡ zone
  pub limit : link.limit ≡ input.limit
  pub first : IsFirstOver link ids (config_of_servers []) (play_options input) hosts resolver
  pub counted : EachIndex ids (λ k. slice_index ids k ≡ k + 1)
  pub all : length ids ≡ 65535

-- The text of the report of a run of these events over sockets. What sockets do is not known.
pub record TellsOver (R : Type 0) (input : PlayInput) (zone : ZoneContent) (events : List Event) (text : List ℕ) : Type 0 where
  pub hosts : HostsContent
  pub resolver : Resolver (WireHandle (SocketLink R))
  pub report : Report
  pub is_zone : ZoneIs input (Ok zone)
  pub are_hosts : HostsAre input.hosts.items (Ok hosts)
  pub start : IsStartOver input zone hosts resolver
  pub reported : IsReportOver (socket_rules R) resolver events report
  pub is_text : text ≡ report_text input.types input.format events report.events.items

-- what a run of files that can be read comes to: `same` says that nothing was written, and `tells` what a text tells of events
pub record IsPlayed (tells : ZoneContent → List Event → List ℕ → Type 0) (input : PlayInput) (same : Type 0) (old new : Option (List ℕ))
    (result : Result (Unit {0}) PlayFault) : Type 0 where
  pub read : OnOk result (IsRead input)
  pub fault : IfErr result (Faults input)
  pub silent : IfErr result (λ fault. IsBeforeRun fault → same)
  pub told : OnOk result ((text : List ℕ) × TellsAllBy tells input text × Appends old new text)
  pub stopped : IfErr result (λ fault. fault ≡ Memory
      → same ⊎ ((text : List ℕ) × TellsFirstBy tells input text × Appends old new text))
