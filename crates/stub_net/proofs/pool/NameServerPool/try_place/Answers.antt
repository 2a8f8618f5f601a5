use Rattle.std.proofs.Common.{◌≡◌, rules}
use Rattle.stub_net.specs.Exchange.{memory_is_out, server_at}
use Rattle.stub_net.proofs.RunLaws.{place-accepted, place-declined, was-tried}
use Rattle.stub_net.proofs.pool.NameServerPool.try_place.Goals as goal

pub returns-in-Accepted : goal.returns-in-Accepted
returns-in-Accepted g c =
    let server : c.unwrap_or-server.result ≡ server_at c.args.self.now.servers c.args.place = search rules in
    place-accepted _ c.args.message.now c.args.bytes.now c.args.place c.args.self.now c.try_server-outcome.result c.try_server-outcome.new.self c.record_answer.new.self
    (was-tried _ _ _ _ _ _ _ _ c.unwrap_or-server.result server c.try_server-outcome.ensures c.in-Accepted.ensures) c.record_answer.ensures

pub returns-in-Declined : goal.returns-in-Declined
returns-in-Declined g c =
    let server : c.unwrap_or-server.result ≡ server_at c.args.self.now.servers c.args.place = search rules in
    place-declined _ c.args.message.now c.args.bytes.now c.args.place c.args.self.now c.try_server-outcome.result c.try_server-outcome.new.self c.now-now.result c.now-now.new.self c.record_failure.new.self
    (was-tried _ _ _ _ _ _ _ _ c.unwrap_or-server.result server c.try_server-outcome.ensures c.in-Declined.ensures) c.now-now.ensures c.record_failure.ensures

pub returns-in-OutOfMemory : goal.returns-in-OutOfMemory
returns-in-OutOfMemory g c =
    let server : c.unwrap_or-server.result ≡ server_at c.args.self.now.servers c.args.place = search rules in
    let tried = was-tried _ c.args.message.now c.args.bytes.now c.args.place c.args.self.now c.try_server-outcome.result c.try_server-outcome.new.self _ c.unwrap_or-server.result server c.try_server-outcome.ensures c.in-OutOfMemory.ensures in
    memory_is_out c.try_server-outcome.result c.try_server-outcome.new.self tried.tries tried.verdict
