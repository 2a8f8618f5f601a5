use Rattle.std.proofs.Common.{true, false, sym, ◌∙◌, refl}
use Rattle.stub_net.proofs.TryLaws.{asks-datagram}
use Rattle.stub_net.proofs.requester.Requester.ask_datagram.Goals as goal

pub returns-then-not-is_cut_reply : goal.returns-then-not-is_cut_reply
returns-then-not-is_cut_reply g c =
    asks-datagram _ c.args.message.now c.args.bytes.now c.args.udp c.args.tcp c.args.self.now c.send_datagram-reply.result c.send_datagram-reply.new.self _ _ false c.send_datagram-reply.ensures (sym c.is_cut_reply.ensures ∙ c.if-not-is_cut_reply.true) (refl, refl)

pub returns-in-Some : goal.returns-in-Some
returns-in-Some g c =
    asks-datagram _ c.args.message.now c.args.bytes.now c.args.udp c.args.tcp c.args.self.now c.send_datagram-reply.result c.send_datagram-reply.new.self _ _ true c.send_datagram-reply.ensures (sym c.is_cut_reply.ensures ∙ c.if-not-is_cut_reply.false) (rw c.in-Some.is c.ask_stream.ensures)

pub returns : goal.returns
returns g c =
    asks-datagram _ c.args.message.now c.args.bytes.now c.args.udp c.args.tcp c.args.self.now c.send_datagram-reply.result c.send_datagram-reply.new.self _ _ true c.send_datagram-reply.ensures (sym c.is_cut_reply.ensures ∙ c.if-not-is_cut_reply.false) (rw c.in-None.is (refl, refl))
