-- Events by their content: with the text of a host, the message of an update, and the link events of a script.
use Rattle.std.specs.Prelude.{ℕ, List, string_bytes}
use Rattle.dns_wire.specs.declared.codes.record_type.RecordType.{RecordType}
use Rattle.dns_names.specs.Name.{DomainName}
use Rattle.dns_messages.specs.declared.message.Message.{Message}
use Rattle.stub_link.specs.declared.link.script.LinkEvent.{LinkEvent}
use Rattle.stub_link.specs.declared.link.script.Script.{Script}
use Rattle.stub_link.specs.declared.link.script.Script.TheVariants as script
use Rattle.stub_run.specs.declared.event.Action.{Action}
use Rattle.stub_run.specs.declared.event.Action.TheVariants as actions
use Rattle.stub_run.specs.declared.event.Event.{Event}

-- what the link does during an event
pub data LinkScript : Type 0 where
  Honest : LinkScript
  Listed : List LinkEvent → LinkScript

-- the content of a link script
abbrev pub link_content : Script → LinkScript
link_content script.Honest = Honest
link_content (script.Listed events) = Listed events.items

-- what happens in an event, with the text of a host and the message of an update
pub data ActionContent : Type 0 where
  Lookup : DomainName → RecordType → ActionContent
  LookupIp : List ℕ → ActionContent
  Clear : DomainName → RecordType → ActionContent
  ClearAll : ActionContent
  Update : Message → ActionContent

-- the content of an action
abbrev pub action_content : Action → ActionContent
action_content (actions.Lookup name kind) = Lookup name kind
action_content (actions.LookupIp host) = LookupIp (string_bytes host)
action_content (actions.Clear name kind) = Clear name kind
action_content actions.ClearAll = ClearAll
action_content (actions.Update update) = Update update.value

-- an event: its moment, what the link does meanwhile, and what happens
pub record EventContent : Type 0 where
  pub at : ℕ
  pub link : LinkScript
  pub action : ActionContent

-- the content of an event
abbrev pub content_of : Event → EventContent
content_of e = record { at = e.at; link = link_content e.script; action = action_content e.action }
