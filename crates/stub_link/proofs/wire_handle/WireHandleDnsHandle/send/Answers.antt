use Rattle.std.proofs.Common.{ap}
use Rattle.dns_messages.specs.declared.message.Message.{Message}
use Rattle.stub_config.specs.declared.request_options.DnsRequestOptions.{DnsRequestOptions}
use Rattle.stub_link.proofs.Asking.{asks-counted}
use Rattle.stub_link.proofs.wire_handle.WireHandleDnsHandle.send.Goals as goal

pub returns : goal.returns
returns g c =
    asks-counted g.L.Link.sends g.L.Link.receives g.L.Link.streams g.L.Link.failure_count c.args.request c.args._now c.into_parts-message.result.0 c.args.self.now c.ask-outcome.result c.ask-outcome.new.self c.count_fault.new.self
    (ap (λ (p : Message × DnsRequestOptions). p.0) c.into_parts-message.ensures) c.ask-outcome.ensures.asked c.ask-outcome.ensures.failed c.count_fault.ensures
