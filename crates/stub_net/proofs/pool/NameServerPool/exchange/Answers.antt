use Rattle.stub_net.specs.Exchange.{no_memory_for_datagram, no_memory_for_order, plan_runs}
use Rattle.stub_net.proofs.pool.NameServerPool.exchange.Goals as goal

pub returns-in_default : goal.returns-in_default
returns-in_default g c = no_memory_for_datagram

pub returns-in_default-order : goal.returns-in_default-order
returns-in_default-order g c =
    rw c.in_default-order.ensures.err (no_memory_for_order c.now-start.result c.now-start.new.self c.now-start.ensures)

pub returns : goal.returns
returns g c =
    plan_runs c.in-Ok.bytes.items c.now-start.result c.now-start.new.self c.run.result c.run.new.self c.in-Ok.ensures c.now-start.ensures
    (rw (c.as_slice.ensures.value, c.as_slice-2.ensures.value, c.in-Ok-order.ensures.order, c.in-Ok-order.ensures.ok) at c.run.ensures)
