-- What a run comes to whose script gives replies in the place of the server's.
use Rattle.std.specs.Prelude.{◌≡◌, ◌+◌, List, [], ℕ, Ok, length, take, reverse, EachIndex, slice_index}
use Rattle.dns_zone.specs.Rows.{ZoneContent}
use Rattle.stub_config.specs.config.{config_of_servers}
use Rattle.stub_hosts.specs.Hosts.{HostsContent}
use Rattle.stub_core.specs.declared.resolver.Resolver.{Resolver}
use Rattle.stub_link.specs.LinkState.{first_link_state}
use Rattle.stub_link.specs.ScriptedLink.{IsAt}
use Rattle.stub_link.specs.declared.link.scripted.ScriptedLink.{ScriptedLink}
use Rattle.stub_link.specs.declared.wire_handle.WireHandle.{WireHandle}
use Rattle.stub_run.specs.RunOver.{IsReportOver, LinkRules, rules_of}
use Rattle.stub_run.specs.ScriptedEvents.{scripted_rules, Begins}
use Rattle.stub_link.specs.ScriptedLink.{IsEnded, Receives, Sends, Streams, is_out_of_memory}
use Rattle.stub_run.specs.declared.event.Event.{Event}
use Rattle.stub_run.specs.declared.report.Report.{Report}
use Rattle.stub_script.specs.GivenLink.{GivenBegins, GivenEnds, GivenReceives, GivenSends, GivenStreams, bytes_of}
use Rattle.stub_script.specs.declared.given_link.GivenLink.{GivenLink}
use Rattle.stub_script.specs.declared.reply_line.GivenReply.{GivenReply}
use Rattle.stub_play.specs.Plays.{HostsAre, IsFirstOfPlay, ScriptIs, ZoneIs, events_of, lines_of}
use Rattle.stub_play.specs.declared.plays.input.PlayInput.{PlayInput}
use Rattle.stub_play.specs.report.Report.{report_text}

-- what a link does that answers by the replies of a script, and else asks a server in memory
abbrev pub given_rules : LinkRules (GivenLink ScriptedLink)
given_rules = rules_of
    (λ old e new. GivenBegins Begins old e new)
    (λ old result new. GivenEnds (λ before ended after. IsEnded before ended after) old result new)
    (λ given. is_out_of_memory given.link)
    (λ old bytes result new. GivenSends Sends old bytes result new)
    (λ old result new. GivenReceives Receives old result new)
    (λ old bytes result new. GivenStreams Streams old bytes result new)
    (λ given. given.link.failures)

-- A link before the first event: to a server of the zone in memory, before which the replies come.
pub record IsGivenLink (zone : ZoneContent) (limit : ℕ) (lines : List ℕ) (replies : List GivenReply) (given : GivenLink ScriptedLink)
    : Type 0 where
  pub server : IsAt given.link (first_link_state zone limit)
  pub replies_are : given.replies.items ≡ reverse replies
  pub lines_are : given.lines.items ≡ lines
  pub begun : given.begun ≡ 0
  pub line : given.line ≡ 0
  pub waiting : bytes_of given.waiting ≡ []

-- The text of the report of a run of these events, which are the first of the script, with these replies.
pub record TellsGiven (input : PlayInput) (replies : List GivenReply) (zone : ZoneContent) (events : List Event) (text : List ℕ)
    : Type 0 where
  pub hosts : HostsContent
  pub script : List (ℕ × Event)
  pub link : GivenLink ScriptedLink
  pub resolver : Resolver (WireHandle (GivenLink ScriptedLink))
  pub report : Report
  pub is_zone : ZoneIs input (Ok zone)
  pub are_hosts : HostsAre input.hosts.items (Ok hosts)
  pub is_script : ScriptIs input zone script
  pub events_are : events ≡ take (length events) (events_of script)
  pub is_link : IsGivenLink zone input.limit (lines_of script) replies link
  pub first : IsFirstOfPlay input link hosts resolver
  pub reported : IsReportOver given_rules resolver events report
  pub is_text : text ≡ report_text input.types input.format events report.events.items
