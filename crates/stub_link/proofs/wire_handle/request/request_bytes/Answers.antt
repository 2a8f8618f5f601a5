use Rattle.std.proofs.Common.{Err, ap, arith}
use Rattle.stub_link.proofs.Requests.{request-fits, request-reads}
use Rattle.stub_link.proofs.wire_handle.request.request_bytes.Goals as goal

pub returns-in-Ok : goal.returns-in-Ok
returns-in-Ok c = record {
  form_is = c.in-Ok.ensures.encodes.form_is;
  decodes = request-reads c.in-Ok.bytes.items c.args.request.now c.requires c.messages_within_the_limit_are_not_cut.ensures c.in-Ok.ensures.encodes.decodes;
  within = c.in-Ok.ensures.encodes.within;
}

pub unreachable-requires : goal.unreachable-requires
unreachable-requires c =
    omega (arith, request-fits c.args.request.now c.requires, (c.in-Err-MaxBufferSizeExceeded.ensures.full (ap Err c.in-Err-MaxBufferSizeExceeded.field-0-is)).past)
