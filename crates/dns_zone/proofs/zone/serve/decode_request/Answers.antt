use Rattle.std.proofs.Common.{sym, ◌∙◌}
use Rattle.dns_zone.proofs.ServingLaws.{a_query}
use Rattle.dns_zone.proofs.zone.serve.decode_request.Goals as goal

pub returns-in-Ok-clause-request : goal.returns-in-Ok-clause-request
returns-in-Ok-clause-request c = record {
  reads = c.in-Ok.ensures.read;
  asks = a_query c.args.bytes.now (sym c.has_query_header.ensures ∙ c.if-not-has_query_header.false) c.in-Ok.request c.in-Ok.ensures.read;
  sound = c.in-Ok.ensures.sound;
}

pub returns-in_default-clause-request : goal.returns-in_default-clause-request
returns-in_default-clause-request c = λ m reads. absurd (c.messages_decode_unambiguously.ensures.not_refused c.args.bytes.now m c.in-Err.error reads (c.in-Err.ensures.refused c.in_default.not-Memory))
