use Rattle.std.proofs.Common.{arith}
use Rattle.dns_messages.proofs.HeaderLaws.{header_listed}
use Rattle.dns_message_bytes.proofs.view.request_view.header_of.Goals as goal

pub returns : goal.returns
returns c =
    header_listed c.args.bytes.now _ c.from_be_bytes-id.result c.requires (λ i. omega (arith, c.type_inv.bytes i)) c.from_bytes.ensures c.from_be_bytes-id.ensures
    c.from_be_bytes-queries.ensures c.from_be_bytes-answers.ensures c.from_be_bytes-authorities.ensures c.from_be_bytes-additionals.ensures
