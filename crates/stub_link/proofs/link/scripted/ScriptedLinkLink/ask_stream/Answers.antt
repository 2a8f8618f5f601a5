use Rattle.std.proofs.Common.{Bool, ℕ, Err, Ok, Some, None, refl, sym, ap, subst, ◌∙◌}
use Rattle.std.specs.Global.{Vec}
use Rattle.stub_link.specs.declared.link.LinkError.{LinkError}
use Rattle.stub_link.specs.Link.{Rises}
use Rattle.stub_link.specs.ScriptedLink.{Streams, TakesFail}
use Rattle.stub_link.specs.declared.link.scripted.ScriptedLink.{ScriptedLink}
use Rattle.stub_link.proofs.Calling.{failed-call, streams-failed, streams-memory, streams-none, streams-ok}
use Rattle.stub_link.proofs.link.scripted.ScriptedLinkLink.ask_stream.Goals as goal

pub returns-then-takes_fail-clause-streams : goal.returns-then-takes_fail-clause-streams
returns-then-takes_fail-clause-streams c =
    subst (λ (e : LinkError). Streams c.args.self.now c.args.bytes.now (Err e) c.fail.new.self) (sym c.fail.ensures.error)
    (streams-failed c.args.self.now c.fail.new.self c.args.bytes.now
    (failed-call c.args.self.now c.takes_fail.new.self c.fail.new.self (subst (λ (b : Bool). TakesFail c.args.self.now b c.takes_fail.new.self) c.if-takes_fail.true c.takes_fail.ensures) c.fail.ensures.rest)
    (subst (λ (n : ℕ). Rises n c.fail.new.self.failures) (ap (λ (l : ScriptedLink). l.failures) c.takes_fail.ensures.rest) c.fail.ensures.rises))

pub returns-in-Ok-Some-clause-streams : goal.returns-in-Ok-Some-clause-streams
returns-in-Ok-Some-clause-streams c =
    streams-ok c.args.self.now c.takes_fail.new.self _ c.args.bytes.now c.in-Ok-Some.reply (subst (λ (b : Bool). TakesFail c.args.self.now b c.takes_fail.new.self) c.if-takes_fail.false c.takes_fail.ensures) refl
    (λ state m s r within. rw c.in-Ok-Some.field-0-is at (c.in-Ok-Some.ensures.ok state m s r within))

pub returns-in-Ok-None-clause-streams : goal.returns-in-Ok-None-clause-streams
returns-in-Ok-None-clause-streams c =
    subst (λ (e : LinkError). Streams c.args.self.now c.args.bytes.now (Err e) c.fail-in-Ok-None.new.self) (sym c.fail-in-Ok-None.ensures.error)
    (streams-none c.args.self.now c.takes_fail.new.self c.fail-in-Ok-None.new.self c.args.bytes.now c.ask_stream.new.self (subst (λ (b : Bool). TakesFail c.args.self.now b c.takes_fail.new.self) c.if-takes_fail.false c.takes_fail.ensures)
    (ap (λ l. l.out_of_memory) c.fail-in-Ok-None.ensures.rest) c.fail-in-Ok-None.ensures.rises
    (λ state m s r within. rw c.in-Ok-None.field-0-is at (c.in-Ok-None.ensures.ok state m s r within)))

pub returns-in-Err-clause-streams : goal.returns-in-Err-clause-streams
returns-in-Err-clause-streams c =
    rw c.from.ensures (streams-memory c.args.self.now c.takes_fail.new.self _ c.args.bytes.now
    (subst (λ (b : Bool). TakesFail c.args.self.now b c.takes_fail.new.self) c.if-takes_fail.false c.takes_fail.ensures) refl refl)
