-- What a lookup waits for.
use Rattle.std.specs.Prelude.{ℕ}
use Rattle.api.specs.lookups.Endpoint.{endpoint_bytes}
use Rattle.api_resolver.specs.declared.exchange.Awaited.{Awaited}
use Rattle.stub_config.specs.declared.config.connection.Protocol.{Protocol}
use Rattle.stub_config.specs.declared.config.connection.Protocol.TheVariants.{Tcp, Udp}
use Rattle.rumstrait_c.specs.declared.wait.Wait.{Wait}

-- the number of the transport of a protocol
abbrev pub transport_of : Protocol → ℕ
transport_of Udp = 0
transport_of Tcp = 1

-- what a lookup waits for, after so many exchanges
abbrev pub wait_of : ℕ → Awaited → Wait
wait_of exchanges awaited = record {
  exchanges = exchanges;
  number = awaited.number;
  deadline = awaited.deadline;
  transport = transport_of awaited.outgoing.protocol;
  server = endpoint_bytes awaited.outgoing.server;
}
