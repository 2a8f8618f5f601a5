-- Replies that a holder of a key signed for a request (RFC 8945 section 5.4), and which bytes of a run they are.
use Rattle.std.specs.Prelude.{◌≡◌, List, [], ◌∷◌, ◌++◌, ℕ, Option, Some, Ok}
use Rattle.std.specs.List.{All}
use Rattle.std.specs.declared.net.socket_addr.SocketAddr.{SocketAddr}
use Rattle.dns_messages.specs.declared.message.Message.{Message}
use Rattle.dns_messages.specs.declared.response.DnsResponse.{DnsResponse}
use Rattle.dns_tsig.specs.signer.Signer.{Checks, SignsRequest}
use Rattle.dns_tsig.specs.declared.signer.refusal.TsigError.{TsigError}
use Rattle.dns_tsig.specs.declared.key.Key.{Key}
use Rattle.stub_link.specs.Link.{Encodes}
use Rattle.stub_net.specs.Network.{NetworkCalls}
use Rattle.stub_net.specs.Request.{Finds}
use Rattle.stub_net.specs.signed.Run.{NetworkStep, Sent, Received, Streamed, ClockRead, IsClockRead, IsOfWait, IsRun}
use Rattle.stub_net.specs.signed.Signed.{time_at}

-- A reply is accepted when the clock reads a moment: a holder of the key signed it for the request with a code. The message is the reply
-- without its signature.
pub record IsAccepted (key : Key) (base : ℕ) (code reply : List ℕ) (clock : ℕ) (message : List ℕ) : Type 0 where
  pub error : Option TsigError
  pub checks : Checks key code reply (time_at base clock) (Ok (record { message = message; error = error }))

-- BringsReply server request reply run: a request is sent to a server, and a reply comes. It is a datagram that is received after
-- nothing else was sent, or what comes over the stream.
pub data BringsReply (server : SocketAddr) (request reply : List ℕ) : List NetworkStep → Type 0 where
  by_datagram : (wait : List NetworkStep) (deadline : ℕ) → All IsOfWait wait
      → BringsReply server request reply (Sent server request (Ok tt) ∷ wait ++ Received deadline (Ok (Some reply)) ∷ [])
  by_stream : (deadline : ℕ) → BringsReply server request reply (Streamed server request deadline (Ok reply) ∷ [])

-- A run ends with a message as the signed reply to a request. The clock is read, the request is signed at that time and sent, a reply
-- comes, the clock is read, and the reply is accepted at that time. After that nothing is sent or received.
pub record EndsWithReply (key : Key) (base : ℕ) (request : List ℕ) (run : List NetworkStep) (message : List ℕ) : Type 0 where
  pub before : List NetworkStep
  pub signed_at : ℕ
  pub code : List ℕ
  pub signed : List ℕ
  pub signs : SignsRequest key request (time_at base signed_at) code signed
  pub server : SocketAddr
  pub reply : List ℕ
  pub exchange : List NetworkStep
  pub brings : BringsReply server signed reply exchange
  pub checked_at : ℕ
  pub accepted : IsAccepted key base code reply checked_at message
  pub after : List NetworkStep
  pub quiet : All IsClockRead after
  pub run_is : run ≡ before ++ (ClockRead signed_at ∷ exchange ++ ClockRead checked_at ∷ after)

-- A message is the signed reply to a request, with which a run of the network from a state to another ends.
pub record IsRepliedOver {N : Type 0} (calls : NetworkCalls N) (key : Key) (base : ℕ) (request : List ℕ) (old new : N)
    (message : List ℕ) : Type 0 where
  pub run : List NetworkStep
  pub is_run : IsRun calls old run new
  pub ends : EndsWithReply key base request run message

-- A response is that in the signed reply to a message, with which a run of the network from a state to another ends.
pub record IsSignedReply {N : Type 0} (calls : NetworkCalls N) (key : Key) (base : ℕ) (m : Message) (old new : N)
    (response : DnsResponse) : Type 0 where
  pub request : List ℕ
  pub encodes : Encodes m request
  pub message : List ℕ
  pub replied : IsRepliedOver calls key base request old new message
  pub finds : Finds m message (Some response)
