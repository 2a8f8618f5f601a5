use Rattle.std.proofs.Common.{rules}
use Rattle.api.specs.buffer.Buffer.{bytes_in}
use Rattle.rumstrait_c.proofs.zone.serve.Goals as goal

pub returns : goal.returns
returns c = record { found = bytes_in (λ reply. reply.items) c.serve_request.result; outcome = c.deliver.result; replies = search rules; delivered = search rules; code_is = search rules }
