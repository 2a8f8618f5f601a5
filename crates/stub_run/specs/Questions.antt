-- Questions of a resolver to the zone's server, and what they end in.
use Rattle.std.specs.Prelude.{◌≡◌, ◌<◌, ◌^◌, true, List, [], ◌∷◌, ℕ, Ok, Err}
use Rattle.dns_wire.specs.codes.RecordType.{type_number}
use Rattle.stub_lookup.specs.declared.error.NetError.TheVariants as net
use Rattle.stub_client.specs.Handle.{Outcome}
use Rattle.stub_client.specs.declared.request.DnsRequest.{DnsRequest}
use Rattle.stub_link.specs.AskState.{AskState, AskZone, UpdateZone}
use Rattle.stub_link.specs.SoundQuestion.{IsShort, SupportedUnless}
use Rattle.stub_run.specs.Run.{Replies, RunState}
use Rattle.stub_run.specs.declared.event.Action.{Action}
use Rattle.stub_run.specs.declared.event.Action.TheVariants as actions
use Rattle.stub_run.specs.declared.event.Event.{Event}
use Rattle.stub_run.specs.declared.report.EventReply.{EventReply}

-- the link or the server has run out of memory
abbrev pub IsOutOfMemory : AskState → Type 0
IsOutOfMemory state = state.link.out_of_memory ≡ true

-- a request to the zone's server that asks a question, until the link or the server has run out of memory
abbrev pub AsksZone : AskState → DnsRequest → ℕ → Outcome → AskState → Type 0
AsksZone old request now outcome new =
    SupportedUnless (λ state. IsOutOfMemory state) (λ asks request now outcome after. AskZone asks request now outcome after)
    old request now outcome new

-- a response, unless there is no memory for it
abbrev pub IsReplyUnlessMemory : Outcome → Type 0
IsReplyUnlessMemory (Ok response) = Unit {0}
IsReplyUnlessMemory (Err net.Memory) = Unit {0}
IsReplyUnlessMemory (Err error) = ⊥

-- ---- events

-- A lookup names no name above 255 bytes, and a type whose number has 16 bits.
abbrev pub IsAskable : Action → Type 0
IsAskable (actions.Lookup name kind) = IsShort name × (type_number kind < 2 ^ 16)
IsAskable action = Unit {0}

-- the same of each of some events' lookups
abbrev pub AreAskable : List Event → Type 0
AreAskable [] = Unit {0}
AreAskable (e ∷ events) = IsAskable e.action × AreAskable events

-- what a resolver replies that asks the zone's server questions alone
abbrev pub RepliesByQuestions : RunState → ℕ → Action → EventReply → RunState → Type 0
RepliesByQuestions old at action reply new =
    Replies (λ asks request now outcome after. AsksZone asks request now outcome after)
    (λ asks update reply after. UpdateZone asks update reply after) old at action reply new
