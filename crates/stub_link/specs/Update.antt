-- Sending an update (RFC 2136 section 2): a datagram, and the response code of its reply. One definition for every link, and for
-- the scripted link without bytes.
use Rattle.std.specs.Prelude.{◌≡◌, ◌⊎◌, None, Result, Ok, Err}
use Rattle.dns_messages.specs.declared.response_code.ResponseCode.{ResponseCode}
use Rattle.dns_messages.specs.declared.message.Message.{Message}
use Rattle.stub_lookup.specs.declared.error.NetError.{NetError}
use Rattle.stub_lookup.specs.declared.error.NetError.TheVariants as net
use Rattle.stub_client.specs.Handle.{Outcome}
use Rattle.stub_link.specs.Link.{Calls, Carrier}
use Rattle.stub_link.specs.Ask.{Asker, IsSent, count_fault}

-- the response code of a reply, which may be truncated
abbrev pub code_of : Outcome → Result ResponseCode NetError
code_of (Ok response) = Ok response.message.metadata.response_code
code_of (Err error) = Err error

-- the update is sent under its own id
pub record IsUpdateSent {L D : Type 0} (carrier : Carrier D) (calls : Calls L D) (m : Message) (old : Asker L)
    (reply : Result ResponseCode NetError) (new : Asker L) : Type 0 where
  pub datagram : D
  pub waited : Outcome
  pub sent : IsSent carrier calls m None datagram old waited new
  pub reply_is : reply ≡ code_of waited

-- An update, the response code that its reply has or the fault, and the asker afterwards. There may be no memory for the
-- datagram.
pub record SendUpdate {L D : Type 0} (carrier : Carrier D) (calls : Calls L D) (m : Message) (old : Asker L)
    (reply : Result ResponseCode NetError) (new : Asker L) : Type 0 where
  pub uncounted : Asker L
  pub sent : ((reply ≡ Err net.Memory) × (uncounted ≡ old)) ⊎ IsUpdateSent carrier calls m old reply uncounted
  pub counted : new ≡ count_fault reply uncounted
