use Rattle.std.proofs.Common.{◌≡◌, ◌≤◌, ◌*◌, ℕ, vec_len, vec_capacity, ap, arith}
use Rattle.stub_run.proofs.runs.reserve_ids.Goals as goal

pub returns-clause-decided : goal.returns-clause-decided
returns-clause-decided g c = λ none.
    let sent = c.handle_mut-handle.result.now.sent in
    let fits : vec_len sent ≤ vec_capacity sent = sent.ok.1 in
    let no-question : c.args.event_count * c.args.max_questions ≡ 0 * c.args.max_questions =
    ap (λ (n : ℕ). n * c.args.max_questions) none in
    c.reserve.ensures.decided (omega (arith, no-question, fits))
