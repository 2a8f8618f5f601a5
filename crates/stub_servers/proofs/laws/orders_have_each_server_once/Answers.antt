use Rattle.stub_servers.proofs.PlacesLaws.{order-length, order-permutes, order-within}
use Rattle.stub_servers.proofs.laws.orders_have_each_server_once.Goals as goal

pub returns-clause-once : goal.returns-clause-once
returns-clause-once c = order-permutes

pub returns-clause-length : goal.returns-clause-length
returns-clause-length c = order-length

pub returns-clause-within : goal.returns-clause-within
returns-clause-within c = order-within
