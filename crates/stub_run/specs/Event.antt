-- Events: which of them update the zone, and during which the link follows no script.
use Rattle.std.specs.Prelude.{◌≡◌, List, [], ◌∷◌, Option, Some, None}
use Rattle.dns_messages.specs.declared.message.Message.{Message}
use Rattle.stub_link.specs.ScriptedLink.{IsListed}
use Rattle.stub_link.specs.declared.link.script.Script.TheVariants.{Honest}
use Rattle.stub_run.specs.declared.event.Action.{Action}
use Rattle.stub_run.specs.declared.event.Action.TheVariants.{Lookup, LookupIp, Clear, ClearAll, Update}
use Rattle.stub_run.specs.declared.event.Event.{Event}

-- the link follows no script during any of the events
abbrev pub AreHonest : List Event → Type 0
AreHonest [] = Unit {0}
AreHonest (e ∷ events) = (e.script ≡ Honest) × AreHonest events

-- the message of an update
abbrev pub update_of : Action → Option Message
update_of (Update update) = Some update.value
update_of (Lookup name rtype) = None
update_of (LookupIp host) = None
update_of (Clear name rtype) = None
update_of ClearAll = None

-- Memory is taken as an event begins: for the place of an update, and otherwise only for the copy of a listed script.
abbrev pub TakesMemory : Event → Type 0
TakesMemory e = update_of e.action ≡ None → IsListed e.script
