-- Why a run ends early, and the line that the program ends with.
use Rattle.std.specs.Prelude.{ℕ, List, ◌++◌, codes, Option, Some, None}
use Rattle.std.specs.Fmt.{decimal}
use Rattle.dns_zone.specs.declared.zone.ZoneFault.TheVariants as zones
use Rattle.dns_zone_file.specs.Error.{line_of}
use Rattle.stub_hosts.specs.declared.hosts.file.HostsFault.TheVariants as hosts
use Rattle.stub_link.specs.declared.link.LinkError.{LinkError}
use Rattle.stub_link.specs.declared.link.LinkError.TheVariants.{Failed}
use Rattle.stub_link.specs.declared.link.LinkError.TheVariants as link
use Rattle.stub_script.specs.declared.script_text.ScriptFault.{ScriptFault}
use Rattle.stub_script.specs.declared.script_text.ScriptFault.TheVariants as scripts
use Rattle.stub_play.specs.declared.plays.fault.PlayFault.{PlayFault}
use Rattle.stub_play.specs.declared.plays.fault.PlayFault.TheVariants.{Zone, Script, Hosts, Sockets, Memory, Write}

-- the fault of a run that a script's fault is
abbrev pub script_fault : ScriptFault → PlayFault
script_fault (scripts.Line line) = Script line
script_fault scripts.Memory = Memory

-- the fault of a run whose sockets cannot be opened
abbrev pub link_fault : LinkError → PlayFault
link_fault Failed = Sockets
link_fault link.Memory = Memory

-- a zone file cannot be parsed; without a line memory ran out
abbrev pub parse_fault_text : Option ℕ → List ℕ
parse_fault_text (Some line) = codes "zone: Z1 line " ++ decimal line
parse_fault_text None = codes "zone: Z7"

-- the line that the program ends with
abbrev pub fault_text : PlayFault → List ℕ
fault_text (Zone (zones.Parse error)) = parse_fault_text (line_of error)
fault_text (Zone zones.NotInternet) = codes "zone: Z2"
fault_text (Zone zones.OutsideOrigin) = codes "zone: Z3"
fault_text (Zone zones.NoSoa) = codes "zone: Z4"
fault_text (Zone zones.SoaElsewhere) = codes "zone: Z5"
fault_text (Zone zones.DataTooLong) = codes "zone: Z6"
fault_text (Zone zones.Memory) = codes "zone: Z7"
fault_text (Script line) = codes "script line " ++ decimal line
fault_text (Hosts hosts.Utf8) = codes "hosts: H1"
fault_text (Hosts hosts.Memory) = codes "hosts: H2"
fault_text Sockets = codes "cannot open sockets"
fault_text Memory = codes "no memory"
fault_text Write = codes "cannot write"
