use Rattle.std.proofs.Common.{◌∙◌, ap, arith, map}
use Rattle.dns_faults.specs.declared.rules.fault.Transport.TheVariants as Transport
use Rattle.dns_sockets.specs.Handler.{request_content}
use Rattle.dns_sockets.proofs.RequestLaws.{requests_more, requests_whole}
use Rattle.dns_sockets.proofs.StreamLaws.{message_request, messages_are}
use Rattle.dns_sockets.proofs.stream.requests_of.Goals as goal

pub loop-bytes-init : goal.loop-bytes-init
loop-bytes-init c = ap (map request_content) c.new-requests.ensures.items

pub loop-bytes-preserved : goal.loop-bytes-preserved
loop-bytes-preserved c =
    requests_more (message_request c.args.peer c.args.now) c.loop-bytes.bytes-index c.args.gathered.now _ c.loop-bytes.requests.items c.push.new.self.items _ c.loop-bytes-test.true c.in_ok-push.ensures.items
    ((λ j. record { bytes = c.as_slice.ensures.value j; peer = c.args.peer; transport = Transport.Stream; moment = c.args.now }) ∙ ap (message_request c.args.peer c.args.now) c.bytes-item.is)
    c.loop-bytes.invariant

pub returns : goal.returns
returns c =
    requests_whole (message_request c.args.peer c.args.now) c.loop-bytes.bytes-index c.args.gathered.now c.loop-bytes.requests.items (omega (arith, c.loop-bytes-test.false)) c.loop-bytes.invariant
    ∙ messages_are c.args.peer c.args.now c.args.gathered.now
