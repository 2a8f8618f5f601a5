-- Signed replies over a network in memory, whose script is what comes and which records what is sent.
use Rattle.std.specs.Prelude.{◌≡◌, List, [], ◌∷◌, ◌++◌, ℕ, Some}
use Rattle.std.specs.List.{Contains}
use Rattle.dns_messages.specs.declared.message.Message.{Message}
use Rattle.dns_messages.specs.declared.response.DnsResponse.{DnsResponse}
use Rattle.dns_tsig.specs.signer.Signer.{SignsRequest}
use Rattle.dns_tsig.specs.declared.key.Key.{Key}
use Rattle.stub_link.specs.Link.{Encodes}
use Rattle.stub_net.specs.Request.{Finds}
use Rattle.stub_net.specs.Script.{ScriptState}
use Rattle.stub_net.specs.declared.network.scripted.NetworkEvent.TheVariants.{Arrival}
use Rattle.stub_net.specs.declared.network.scripted.TimedEvent.{TimedEvent}
use Rattle.stub_net.specs.declared.network.scripted.Transmission.{Transmission}
use Rattle.stub_net.specs.signed.Reply.{IsAccepted}
use Rattle.stub_net.specs.signed.Signed.{time_at}

-- A message of the script was accepted as the reply to a request. The request is in the last transmission, signed at its moment, and
-- the clock has not moved since the reply was accepted.
pub record IsAcceptedArrival (key : Key) (base : ℕ) (request : List ℕ) (old new : ScriptState) (message : List ℕ) : Type 0 where
  pub before : List Transmission
  pub last : Transmission
  pub sent_is : new.sent ≡ before ++ last ∷ []
  pub code : List ℕ
  pub signs : SignsRequest key request (time_at base last.moment) code last.bytes
  pub arrival : TimedEvent
  pub reply : List ℕ
  pub arrives : Contains old.script arrival
  pub arrival_is : arrival.event ≡ Arrival reply
  pub accepted : IsAccepted key base code reply new.clock message

-- a response is that in a message of the script, which was accepted as the reply to a message
pub record IsSignedArrival (key : Key) (base : ℕ) (m : Message) (old new : ScriptState) (response : DnsResponse) : Type 0 where
  pub request : List ℕ
  pub encodes : Encodes m request
  pub message : List ℕ
  pub accepted : IsAcceptedArrival key base request old new message
  pub finds : Finds m message (Some response)
