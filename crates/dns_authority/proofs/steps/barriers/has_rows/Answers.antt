use Rattle.dns_authority.proofs.BarrierLaws.{some_rows}
use Rattle.dns_authority.proofs.steps.barriers.has_rows.Goals as goal

pub returns : goal.returns
returns c = some_rows c.records_at.result.now _ c.is_empty.result c.records_at.ensures.rows c.is_empty.ensures
