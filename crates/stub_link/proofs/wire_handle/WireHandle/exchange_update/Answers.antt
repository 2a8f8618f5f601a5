use Rattle.std.proofs.Common.{ℕ, inl, inr, refl, sym, subst, Result}
use Rattle.dns_messages.specs.declared.response_code.ResponseCode.{ResponseCode}
use Rattle.stub_lookup.specs.declared.error.NetError.{NetError}
use Rattle.stub_link.specs.Link.{Encodes}
use Rattle.stub_link.specs.Request.{whole_update}
use Rattle.stub_link.specs.WireHandle.{FailsByLink}
use Rattle.stub_link.proofs.Asking.{code-fails}
use Rattle.stub_link.proofs.wire_handle.WireHandle.exchange_update.Goals as goal

pub request_bytes-requires : goal.request_bytes-requires
request_bytes-requires g c = whole_update c.args.update.now c.requires

pub returns-in-Ok-clause-sent : goal.returns-in-Ok-clause-sent
returns-in-Ok-clause-sent g c = inr (record {
  datagram = c.as_slice.result.now;
  waited = c.exchange.result;
  sent = c.exchange.ensures.sent c.args.update.now (subst (Encodes c.args.update.now) (sym c.as_slice.ensures.value) c.in-Ok.ensures) refl;
  reply_is = c.code_of.ensures;
})

pub returns-in-Ok-clause-failed : goal.returns-in-Ok-clause-failed
returns-in-Ok-clause-failed g c =
    subst (λ (r : Result ResponseCode NetError). FailsByLink r (g.L.Link.failure_count c.args.self.now.link) (g.L.Link.failure_count c.exchange.new.self.link)) (sym c.code_of.ensures)
    (code-fails c.exchange.result (g.L.Link.failure_count c.args.self.now.link) (g.L.Link.failure_count c.exchange.new.self.link) c.exchange.ensures.failed)

pub returns-in-Err-clause-sent : goal.returns-in-Err-clause-sent
returns-in-Err-clause-sent g c = inl (refl, refl)
