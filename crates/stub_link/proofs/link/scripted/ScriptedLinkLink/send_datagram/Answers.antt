use Rattle.std.proofs.Common.{Bool, ℕ, Err, Result, sym, ap, subst, ◌∙◌}
use Rattle.std.proofs.lemmas.Result.{err_from_is_err_and}
use Rattle.stub_link.specs.declared.link.LinkError.{LinkError}
use Rattle.stub_link.specs.Link.{Rises}
use Rattle.stub_link.specs.ScriptedLink.{Sends, TakesFail}
use Rattle.stub_link.specs.declared.link.scripted.ScriptedLink.{ScriptedLink}
use Rattle.stub_link.proofs.Calling.{failed-call, noted-failures, noted-out, sends-failed, sends-memory, sends-noted}
use Rattle.stub_link.proofs.link.scripted.ScriptedLinkLink.send_datagram.Goals as goal

pub returns-then-takes_fail-clause-sends : goal.returns-then-takes_fail-clause-sends
returns-then-takes_fail-clause-sends c =
    subst (λ (e : LinkError). Sends c.args.self.now c.args.bytes.now (Err e) c.fail.new.self) (sym c.fail.ensures.error)
    (sends-failed c.args.self.now c.fail.new.self c.args.bytes.now
    (failed-call c.args.self.now c.takes_fail.new.self c.fail.new.self (subst (λ (b : Bool). TakesFail c.args.self.now b c.takes_fail.new.self) c.if-takes_fail.true c.takes_fail.ensures) c.fail.ensures.rest)
    (subst (λ (n : ℕ). Rises n c.fail.new.self.failures) (ap (λ (l : ScriptedLink). l.failures) c.takes_fail.ensures.rest) c.fail.ensures.rises))

pub returns-in_err-note_refusal-clause-sends : goal.returns-in_err-note_refusal-clause-sends
returns-in_err-note_refusal-clause-sends c =
    let p = err_from_is_err_and c.from_residual.result c.from_residual.ensures.1 in
    rw (p.1, p.2) (sends-memory c.args.self.now c.takes_fail.new.self c.note_refusal.new.self c.args.bytes.now
    (subst (λ (b : Bool). TakesFail c.args.self.now b c.takes_fail.new.self) c.if-takes_fail.false c.takes_fail.ensures)
    (noted-out c.record_datagram-sent.new.self c.note_refusal.new.self c.record_datagram-sent.result c.note_refusal.result _ c.in_err-note_refusal.was c.note_refusal.ensures.same c.note_refusal.ensures.err)
    (noted-failures c.record_datagram-sent.new.self c.note_refusal.new.self c.record_datagram-sent.result c.note_refusal.ensures.ok c.note_refusal.ensures.err ∙ c.record_datagram-sent.ensures.failures))

pub returns-clause-sends : goal.returns-clause-sends
returns-clause-sends c =
    sends-noted c.args.self.now c.takes_fail.new.self c.record_datagram-sent.new.self c.note_refusal.new.self c.args.bytes.now c.record_datagram-sent.result c.note_refusal.result c.in_ok-note_refusal.field-0
    (subst (λ (b : Bool). TakesFail c.args.self.now b c.takes_fail.new.self) c.if-takes_fail.false c.takes_fail.ensures)
    c.record_datagram-sent.ensures.sent c.record_datagram-sent.ensures.memory c.record_datagram-sent.ensures.failures c.in_ok-note_refusal.was c.note_refusal.ensures.same c.note_refusal.ensures.ok
