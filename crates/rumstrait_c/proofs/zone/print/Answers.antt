use Rattle.std.proofs.Common.{rules}
use Rattle.api.specs.buffer.Buffer.{bytes_in}
use Rattle.rumstrait_c.proofs.PrintLaws.{text_found}
use Rattle.rumstrait_c.proofs.zone.print.Goals as goal

pub returns : goal.returns
returns c = record { found = bytes_in (λ text. text.items) c.zone_text.result; outcome = c.deliver.result; text = text_found (λ text. text.items) _ c.zone_text.result c.zone_text.ensures.text c.zone_text.ensures.refused; delivered = search rules; code_is = search rules; same = search rules }
