use Rattle.std.proofs.Common.{ap}
use Rattle.std.specs.Prelude.{string_bytes}
use Rattle.dns_durable.proofs.DraftBatchLaws.{taken}
use Rattle.dns_durable.proofs.durable_server.DurableServer.take_text.Goals as goal

pub returns-in-Some-clause-successor : goal.returns-in-Some-clause-successor
returns-in-Some-clause-successor g c = λ base behind.
    taken base c.args.self.now.server c.args.self.now.draft c.in-Some.draft (string_bytes c.into_rewritten.result.text) c.into_rewritten.result.carried.items c.into_rewritten.result.zone
    c.in-Some.ensures.whole.0 c.in-Some.ensures.whole.1.0 c.into_rewritten.ensures.text (ap (λ v. v.items) c.into_rewritten.ensures.carried) c.into_rewritten.ensures.zone behind
