use Rattle.std.proofs.Common.{rules}
use Rattle.rumstrait_c.proofs.zone.make.Goals as goal

pub returns-in-Err : goal.returns-in-Err
returns-in-Err c = (search rules, record { reason = c.in-Err.refusal; refused = search rules; code_is = search rules })
