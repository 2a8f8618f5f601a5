use Rattle.std.proofs.Common.{rules}
use Rattle.api.specs.buffer.Buffer.{bytes_in}
use Rattle.rumstrait_c.proofs.GivingLaws.{finds_bytes}
use Rattle.rumstrait_c.proofs.message.rumstrait_question.Goals as goal

pub returns : goal.returns
returns c = record { found = bytes_in (λ bytes. bytes.items) c.question_bytes-found.result; outcome = c.deliver.result; finds = finds_bytes (λ bytes. bytes.items) _ _ c.question_bytes-found.result c.question_bytes-found.ensures.bytes c.question_bytes-found.ensures.refused; delivered = search rules; code_is = search rules }
