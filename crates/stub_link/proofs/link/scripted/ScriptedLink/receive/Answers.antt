use Rattle.std.proofs.Common.{ap, option_map}
use Rattle.std.specs.Global.{Vec}
use Rattle.stub_link.specs.declared.link.scripted.ScriptedLink.{ScriptedLink}
use Rattle.stub_link.proofs.Receiving.{receive-honest, receive-listed-by, receive-parts}
use Rattle.stub_link.proofs.link.scripted.ScriptedLink.receive.Goals as goal

pub returns-in_ok-receive_honestly-clause-receives : goal.returns-in_ok-receive_honestly-clause-receives
returns-in_ok-receive_honestly-clause-receives c = λ state shown.
    receive-parts _ c.receive_honestly.new.self state
    (receive-honest c.args.self.now c.receive_honestly.new.self _ state c.if-self.true c.in_ok-receive_honestly.ensures.receives
    (ap (λ (l : ScriptedLink). l.is_honest) c.receive_honestly.ensures.rest) (ap (λ (l : ScriptedLink). l.events) c.receive_honestly.ensures.rest) (ap (λ (l : ScriptedLink). l.is_update) c.receive_honestly.ensures.rest) shown)

pub returns-else-self-clause-receives : goal.returns-else-self-clause-receives
returns-else-self-clause-receives c =
    receive-listed-by c.args.self.now c.receive_listed.new.self c.receive_listed.result c.if-self.false c.receive_listed.ensures.receives
    (ap (λ (l : ScriptedLink). l.is_honest) c.receive_listed.ensures.rest) (ap (λ (l : ScriptedLink). l.under_way) c.receive_listed.ensures.rest) (ap (λ (l : ScriptedLink). l.is_update) c.receive_listed.ensures.rest)
