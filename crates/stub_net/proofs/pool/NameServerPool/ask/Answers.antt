use Rattle.std.proofs.Common.{◌<◌, ◌^◌, arith}
use Rattle.stub_link.proofs.Requests.{asks-under}
use Rattle.stub_net.specs.Pool.{is_asked, no_id_is_drawn, not_a_question}
use Rattle.stub_net.proofs.pool.NameServerPool.ask.Goals as goal

pub returns-in_default : goal.returns-in_default
returns-in_default g c = not_a_question (c.question_of.ensures.none c.in_default.is)

pub returns-in-None : goal.returns-in-None
returns-in-None g c = no_id_is_drawn c.in-Some._query.now c.draw.new.self c.in-Some.ensures.some c.in-None.ensures

pub exchange-requires : goal.exchange-requires
exchange-requires g c =
    let small : c.in-Some-draw.id < 2 ^ 16 = omega arith in
    let asks = asks-under c.in-Some-draw.id c.args.request.now c.in-Some._query.now small c.in-Some.ensures.some in
    asks.whole

pub returns-in-Some-draw : goal.returns-in-Some-draw
returns-in-Some-draw g c =
    is_asked c.in-Some._query.now c.in-Some-draw.id c.draw.new.self c.exchange.result c.exchange.new.self c.in-Some.ensures.some c.in-Some-draw.ensures c.exchange.ensures
