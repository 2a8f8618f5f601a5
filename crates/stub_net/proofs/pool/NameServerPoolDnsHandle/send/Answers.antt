use Rattle.std.proofs.Common.{◌≡◌, ap}
use Rattle.stub_net.specs.declared.requester.Requester.{Requester}
use Rattle.stub_net.proofs.pool.NameServerPoolDnsHandle.send.Goals as goal

pub returns : goal.returns
returns g c =
    let same : c.into_parts-message.result.0 ≡ c.args.request.message = cc in
    record {
      uncounted = c.ask-outcome.new.self;
      asks = rw same at c.ask-outcome.ensures;
      counted = ap (λ (r : Requester g.row.N.Denot). record c.ask-outcome.new.self { requester = r }) c.count_fault.ensures;
    }
