-- A handle over the scripted link, without bytes.
use Rattle.std.specs.Prelude.{◌≡◌, ◌⊎◌, true, List, [], ℕ, Result}
use Rattle.dns_messages.specs.declared.message.Message.{Message}
use Rattle.dns_messages.specs.declared.response_code.ResponseCode.{ResponseCode}
use Rattle.dns_zone.specs.Rows.{ZoneContent}
use Rattle.stub_lookup.specs.declared.error.NetError.{NetError}
use Rattle.stub_client.specs.Handle.{Outcome}
use Rattle.stub_client.specs.declared.request.DnsRequest.{DnsRequest}
use Rattle.stub_link.specs.declared.link.script.Script.{Script}
use Rattle.stub_link.specs.Link.{messages}
use Rattle.stub_link.specs.Ask.{Ask, Asker}
use Rattle.stub_link.specs.Update.{SendUpdate}
use Rattle.stub_link.specs.LinkState.{LinkState, begin_event, begin_update, end_event, first_link_state, link_calls}

-- an asker over the scripted link without bytes
abbrev pub AskState : Type 0
AskState = Asker LinkState

-- before any event: the link is in its first state, and nothing was asked
abbrev pub first_asks : ZoneContent → ℕ → List ℕ → AskState
first_asks zone limit ids = record {
  link = first_link_state zone limit;
  ids = ids;
  sent = [];
  dropped = 0;
  faults = 0;
  questions = 0;
}

-- An event begins: nothing is counted yet.
abbrev pub begin : ℕ → Script → AskState → AskState
begin moment script state = record state { link = begin_event moment script state.link; faults = 0; questions = 0 }

-- an event that sends an update begins: nothing is counted yet
abbrev pub begin_with_update : ℕ → Script → AskState → AskState
begin_with_update moment script state =
    record state { link = begin_update moment script state.link; faults = 0; questions = 0 }

-- an event ends on the link
abbrev pub end : AskState → AskState
end state = record state { link = end_event state.link }

-- Out of memory, nothing else is known, and it stays so.
abbrev pub StaysOut : AskState → AskState → Type 0
StaysOut old new = (old.link.out_of_memory ≡ true) × (new.link.out_of_memory ≡ true)

-- A question to the zone's server: the behavior of a handle over the scripted link.
abbrev pub AskZone : AskState → DnsRequest → ℕ → Outcome → AskState → Type 0
AskZone old request now outcome new = StaysOut old new ⊎ Ask messages link_calls request.message old outcome new

-- an update that is sent to the zone's server
abbrev pub UpdateZone : AskState → Message → Result ResponseCode NetError → AskState → Type 0
UpdateZone old update reply new = StaysOut old new ⊎ SendUpdate messages link_calls update old reply new
