use Rattle.std.proofs.Common.{rules}
use Rattle.api.specs.buffer.Buffer.{bytes_in}
use Rattle.rumstrait_c.proofs.GivingLaws.{finds_bytes}
use Rattle.rumstrait_c.proofs.message.rumstrait_message_text.Goals as goal

pub returns : goal.returns
returns c = record { found = bytes_in (λ bytes. bytes.items) c.message_text.result; outcome = c.deliver.result; finds = finds_bytes (λ bytes. bytes.items) _ _ c.message_text.result c.message_text.ensures.text c.message_text.ensures.refused; delivered = search rules; code_is = search rules }
