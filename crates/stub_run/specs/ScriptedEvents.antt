-- Events over the scripted link.
use Rattle.std.specs.Prelude.{ℕ, Option, Some, None}
use Rattle.dns_messages.specs.declared.message.Message.{Message}
use Rattle.stub_link.specs.LinkState.{LinkState, begin_event, begin_update}
use Rattle.stub_link.specs.ScriptedLink.{IsAt, IsEnded, Receives, Sends, Streams, is_out_of_memory}
use Rattle.stub_link.specs.declared.link.script.Script.{Script}
use Rattle.stub_link.specs.declared.link.scripted.ScriptedLink.{ScriptedLink}
use Rattle.stub_run.specs.Event.{update_of}
use Rattle.stub_run.specs.RunOver.{LinkRules, rules_of}
use Rattle.stub_run.specs.declared.event.Event.{Event}

-- An event begins at its moment with its script, and an update has a place among the updates.
abbrev pub begin_link : Option Message → ℕ → Script → LinkState → LinkState
begin_link None at script state = begin_event at script state
begin_link (Some update) at script state = begin_update at script state

-- From each state that the link is in, the event begins.
abbrev pub Begins : ScriptedLink → Event → ScriptedLink → Type 0
Begins old e new =
    (state : LinkState) → IsAt old state → IsAt new (begin_link (update_of e.action) e.at e.script state)

-- what the scripted link does
abbrev pub scripted_rules : LinkRules ScriptedLink
scripted_rules = rules_of Begins IsEnded is_out_of_memory Sends Receives Streams (λ link. link.failures)
