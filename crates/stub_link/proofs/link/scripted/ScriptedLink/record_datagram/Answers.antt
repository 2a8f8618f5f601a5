use Rattle.std.proofs.Common.{refl}
use Rattle.stub_link.proofs.Calling.{recorded-datagram, recorded-update}
use Rattle.stub_link.proofs.link.scripted.ScriptedLink.record_datagram.Goals as goal

pub returns-then-self-clause-sent : goal.returns-then-self-clause-sent
returns-then-self-clause-sent c =
    recorded-update c.args.self.now c.put_under_way.new.self _ c.args.bytes.now c.replace_last.result c.in_ok-put_under_way.ensures.honest c.put_under_way.ensures.listed c.put_under_way.ensures.rest c.if-self.true c.replace_last.ensures refl

pub returns-else-self-clause-sent : goal.returns-else-self-clause-sent
returns-else-self-clause-sent c =
    recorded-datagram c.args.self.now c.put_under_way.new.self _ c.args.bytes.now c.push_copy.result c.in_ok-put_under_way.ensures.honest c.put_under_way.ensures.listed c.put_under_way.ensures.rest c.if-self.false c.push_copy.ensures refl
