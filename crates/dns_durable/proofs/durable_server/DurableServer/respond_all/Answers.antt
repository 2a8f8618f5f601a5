use Rattle.std.proofs.Common.{◌∙◌}
use Rattle.dns_durable.proofs.BatchLaws.{all_judged}
use Rattle.dns_durable.proofs.DraftBatchLaws.{noted}
use Rattle.dns_durable.proofs.durable_server.DurableServer.respond_all.Goals as goal

pub respond_batch-outcome-requires-clause-judged : goal.respond_batch-outcome-requires-clause-judged
respond_batch-outcome-requires-clause-judged g c = all_judged c.args.policy.now c.args.requests.now c.in_ok-batch.batch.admitted.items c.in_ok-batch.ensures.admitted

pub returns-clause-behind : goal.returns-clause-behind
returns-clause-behind g c = λ base behind.
    let ready = c.settle_updates.ensures base behind in
    noted base c.args.self.now.server c.respond_batch-outcome.new.server c.args.policy.now c.in_ok-batch.batch.admitted.items c.respond_batch-outcome.result c.as_slice.result.now
    c.settle_updates.new.progress c.note_outcome.new.progress ready.0 ready.1 (all_judged c.args.policy.now c.args.requests.now c.in_ok-batch.batch.admitted.items c.in_ok-batch.ensures.admitted)
    (c.as_slice.ensures.value ∙ c.in_ok-batch.ensures.entry) c.respond_batch-outcome.ensures.performs.holds.answered c.note_outcome.ensures
