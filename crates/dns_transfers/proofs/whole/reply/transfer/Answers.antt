use Rattle.dns_transfers.proofs.RequestLaws.{by_bytes, no_request}
use Rattle.dns_transfers.proofs.whole.reply.transfer.Goals as goal

pub returns-in-Some : goal.returns-in-Some
returns-in-Some c =
    by_bytes c.args.zones.now c.args.transport c.args.is_permitted c.args.bytes.now c.in-Some.request c.in_ok-request.field-0 c.in-Some.is c.in_ok-request.ensures.request
    (c.messages_decode_unambiguously.ensures.same c.args.bytes.now) c.transfer_to.result c.transfer_to.ensures

pub returns-in-None : goal.returns-in-None
returns-in-None c = no_request c.args.bytes.now c.in_ok-request.field-0 c.in-None.is c.in_ok-request.ensures.request
