-- A try by a datagram, and by a stream after it.
use Rattle.std.proofs.Common.{◌≡◌, Bool, List, ℕ, Option, sym, subst}
use Rattle.std.specs.declared.net.socket_addr.SocketAddr.{SocketAddr}
use Rattle.dns_messages.specs.declared.message.Message.{Message}
use Rattle.stub_client.specs.Handle.{Outcome}
use Rattle.stub_net.specs.Network.{NetworkCalls}
use Rattle.stub_net.specs.Request.{is_cut_reply}
use Rattle.stub_net.specs.Try.{AfterDatagram, AsksDatagram, SendsDatagram}
use Rattle.stub_net.specs.declared.requester.Requester.{Requester}

-- what comes after a datagram decides on the try
pub asks-datagram : {N : Type 0} (calls : NetworkCalls N) (m : Message) (bytes : List ℕ) (udp : SocketAddr) (tcp : Option SocketAddr) (old : Requester N) (waited : Outcome) (mid : Requester N) (outcome : Outcome) (new : Requester N) (cut : Bool)
    → SendsDatagram calls m bytes udp old waited mid → is_cut_reply m waited ≡ cut → AfterDatagram calls m bytes cut tcp waited mid outcome new → AsksDatagram calls m bytes udp tcp old outcome new
asks-datagram calls m bytes udp tcp old waited mid outcome new cut sent is after =
    record { waited = waited; mid = mid; sent = sent; ends = subst (λ (b : Bool). AfterDatagram calls m bytes b tcp waited mid outcome new) (sym is) after }
