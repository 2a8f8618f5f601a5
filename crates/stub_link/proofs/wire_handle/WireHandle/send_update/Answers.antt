use Rattle.std.proofs.Common.{sym, subst}
use Rattle.stub_link.specs.Request.{IsUpdate}
use Rattle.stub_link.proofs.Asking.{update-counted}
use Rattle.stub_link.proofs.wire_handle.WireHandle.send_update.Goals as goal

pub exchange_update-reply-requires : goal.exchange_update-reply-requires
exchange_update-reply-requires g c = subst IsUpdate (sym c.message.ensures.message) c.message.ensures.update

pub returns : goal.returns
returns g c =
    update-counted g.L.Link.sends g.L.Link.receives g.L.Link.streams g.L.Link.failure_count c.message.result.now c.args.update.now c.args.self.now c.exchange_update-reply.result c.exchange_update-reply.new.self c.count_fault.new.self
    c.message.ensures.message c.exchange_update-reply.ensures.sent c.exchange_update-reply.ensures.failed c.count_fault.ensures
