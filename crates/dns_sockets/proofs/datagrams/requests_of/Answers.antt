use Rattle.std.proofs.Common.{◌∙◌, ap, arith, map}
use Rattle.dns_faults.specs.declared.rules.fault.Transport.TheVariants as Transport
use Rattle.dns_sockets.specs.Datagrams.{content_at}
use Rattle.dns_sockets.specs.Handler.{request_content}
use Rattle.dns_sockets.proofs.RequestLaws.{requests_more, requests_whole}
use Rattle.dns_sockets.proofs.datagrams.requests_of.Goals as goal

pub loop-datagram-init : goal.loop-datagram-init
loop-datagram-init c = ap (map request_content) c.new-requests.ensures.items

pub loop-datagram-preserved : goal.loop-datagram-preserved
loop-datagram-preserved c =
    requests_more (content_at c.args.now) c.loop-datagram.datagram-index c.args.gathered.now _ c.loop-datagram.requests.items c.push.new.self.items _ c.loop-datagram-test.true c.in_ok-push.ensures.items
    ((λ j. record { bytes = c.as_slice.ensures.value j; peer = c.datagram-item.result.peer; transport = Transport.Datagram; moment = c.args.now }) ∙ ap (content_at c.args.now) c.datagram-item.is)
    c.loop-datagram.invariant

pub returns : goal.returns
returns c = requests_whole (content_at c.args.now) c.loop-datagram.datagram-index c.args.gathered.now c.loop-datagram.requests.items (omega (arith, c.loop-datagram-test.false)) c.loop-datagram.invariant
