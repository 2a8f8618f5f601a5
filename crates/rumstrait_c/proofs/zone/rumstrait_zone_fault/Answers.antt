use Rattle.std.proofs.Common.{rules}
use Rattle.api.specs.buffer.Buffer.{bytes_in}
use Rattle.rumstrait_c.proofs.FaultLaws.{fault_found}
use Rattle.rumstrait_c.proofs.zone.rumstrait_zone_fault.Goals as goal

pub returns : goal.returns
returns c = record { found = bytes_in (λ sentence. sentence.items) c.zone_fault-found.result; outcome = c.deliver.result; fault = fault_found (λ sentence. sentence.items) _ _ _ _ c.zone_fault-found.result c.zone_fault-found.ensures.fault c.zone_fault-found.ensures.refused c.zone_fault-found.ensures.err; delivered = search rules; code_is = search rules }
