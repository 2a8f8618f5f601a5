use Rattle.std.proofs.Common.{rules}
use Rattle.api.specs.buffer.Buffer.{bytes_in}
use Rattle.rumstrait_c.proofs.GivingLaws.{finds_bytes}
use Rattle.rumstrait_c.proofs.message.rumstrait_message_encode.Goals as goal

pub returns : goal.returns
returns c = record { found = bytes_in (λ bytes. bytes.items) c.encode_again.result; outcome = c.deliver.result; finds = finds_bytes (λ bytes. bytes.items) _ _ c.encode_again.result c.encode_again.ensures.bytes c.encode_again.ensures.refused; delivered = search rules; code_is = search rules }
