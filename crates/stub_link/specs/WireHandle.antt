-- Handles over any link, and over the scripted link.
use Rattle.std.specs.Prelude.{◌≡◌, ⊤, Bool, List, ℕ, Option, Some, None, Result, Ok, Err, true, false}
use Rattle.dns_messages.specs.declared.response_code.ResponseCode.{ResponseCode}
use Rattle.dns_messages.specs.declared.message.Message.{Message}
use Rattle.dns_messages.specs.declared.query.Query.{Query}
use Rattle.dns_messages.specs.declared.response.DnsResponse.{DnsResponse}
use Rattle.stub_lookup.specs.declared.error.LinkFault.TheVariants as fault
use Rattle.stub_lookup.specs.declared.error.NetError.{NetError}
use Rattle.stub_lookup.specs.declared.error.NetError.TheVariants as net
use Rattle.stub_client.specs.Handle.{Outcome}
use Rattle.stub_client.specs.declared.request.DnsRequest.{DnsRequest}
use Rattle.stub_link.specs.declared.link.LinkError.{LinkError}
use Rattle.stub_link.specs.declared.link.scripted.ScriptedLink.{ScriptedLink}
use Rattle.stub_link.specs.declared.wire_handle.WireHandle.{WireHandle}
use Rattle.stub_link.specs.Link.{Decodes, Rises, calls_of, wire}
use Rattle.stub_link.specs.Reply.{matches}
use Rattle.stub_link.specs.Wait.{IsOther}
use Rattle.stub_link.specs.Ask.{AfterStream, Ask, Asker}
use Rattle.stub_link.specs.Update.{SendUpdate}
use Rattle.stub_link.specs.AskState.{AskState}
use Rattle.stub_link.specs.ScriptedLink.{IsAt}

-- ---- any link

-- a handle as an asker
abbrev pub asker_of : {L : Type 0} → WireHandle L → Asker L
asker_of handle = record {
  link = handle.link;
  ids = handle.ids.items;
  sent = handle.sent.items;
  dropped = handle.dropped;
  faults = handle.faults;
  questions = handle.questions;
}

-- the handle with another link
abbrev pub with_link : {L : Type 0} → WireHandle L → L → WireHandle L
with_link handle link = record handle { link = link }

-- An outcome says that the link failed, F1, F2 or F5, only if its count of failures rose, from the old to the new number.
abbrev pub FailsByLink : {X : Type 0} → Result X NetError → ℕ → ℕ → Type 0
FailsByLink (Err (net.Link fault.NotSent)) old new = Rises old new
FailsByLink (Err (net.Link fault.NotReceived)) old new = Rises old new
FailsByLink (Err (net.Link fault.StreamFailed)) old new = Rises old new
FailsByLink outcome old new = ⊤

-- A handle is asked what a request asks.
pub record Asks {L : Type 0} (sends : L → List ℕ → Result (Unit {0}) LinkError → L → Type 0)
    (receives : L → Result (Option (List ℕ)) LinkError → L → Type 0)
    (streams : L → List ℕ → Result (List ℕ) LinkError → L → Type 0) (failure_count : L → ℕ)
    (old : WireHandle L) (request : DnsRequest) (now : ℕ) (outcome : Outcome) (new : WireHandle L) : Type 0 where
  pub ask : Ask wire (calls_of sends receives streams) request.message (asker_of old) outcome (asker_of new)
  pub failed : FailsByLink outcome (failure_count old.link) (failure_count new.link)

-- A handle sends an update.
pub record SendsUpdate {L : Type 0} (sends : L → List ℕ → Result (Unit {0}) LinkError → L → Type 0)
    (receives : L → Result (Option (List ℕ)) LinkError → L → Type 0)
    (streams : L → List ℕ → Result (List ℕ) LinkError → L → Type 0) (failure_count : L → ℕ)
    (old : WireHandle L) (update : Message) (reply : Result ResponseCode NetError) (new : WireHandle L) : Type 0 where
  pub sent : SendUpdate wire (calls_of sends receives streams) update (asker_of old) reply (asker_of new)
  pub failed : FailsByLink reply (failure_count old.link) (failure_count new.link)

-- the reply in a datagram, or `None` if it has none
abbrev pub FindsReply : ℕ → Option Query → List ℕ → Option DnsResponse → Type 0
FindsReply id question bytes (Some response) = Decodes bytes response × (matches id question response.message ≡ true)
FindsReply id question bytes None = IsOther wire id question bytes

-- what asking again over a stream leads to
pub record StreamsTo {L : Type 0} (streams : L → List ℕ → Result (List ℕ) LinkError → L → Type 0) (id : ℕ) (q : Query)
    (request : List ℕ) (old : L) (outcome : Outcome) (new : L) : Type 0 where
  pub result : Result (List ℕ) LinkError
  pub streamed : streams old request result new
  pub after : AfterStream wire id q result outcome

-- whether an outcome is a truncated reply (RFC 1035 section 4.1.1)
abbrev pub is_truncated : Outcome → Bool
is_truncated (Ok response) = response.message.metadata.truncation
is_truncated (Err error) = false

-- ---- the scripted link

-- what a handle over the scripted link shows besides its link
pub record ShowsAsker (handle : WireHandle ScriptedLink) (state : AskState) : Type 0 where
  pub ids : handle.ids.items ≡ state.ids
  pub sent : handle.sent.items ≡ state.sent
  pub dropped : handle.dropped ≡ state.dropped
  pub faults : handle.faults ≡ state.faults
  pub questions : handle.questions ≡ state.questions

-- A handle is in a state without bytes. Out of memory, nothing else is known.
pub record IsIn (handle : WireHandle ScriptedLink) (state : AskState) : Type 0 where
  pub link : IsAt handle.link state.link
  pub shows : handle.link.out_of_memory ≡ false → ShowsAsker handle state
