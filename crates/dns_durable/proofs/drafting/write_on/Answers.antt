use Rattle.std.proofs.Common.{◌∙◌, sym}
use Rattle.dns_durable.proofs.BatchLaws.{only_one}
use Rattle.dns_durable.proofs.DraftBatchLaws.{on_behind}
use Rattle.dns_durable.proofs.drafting.write_on.Goals as goal

pub returns-in_default-write_on : goal.returns-in_default-write_on
returns-in_default-write_on c = λ base behind.
    on_behind base c.zone-item.result c.args.server.now c.args.progress.now c.in-Writing.draft c.write_on.new.self c.in-Writing.is
    (sym c.zones.ensures.zones ∙ only_one c.zones.result.now c.zone-item.result c.in-len1.len_at_least c.in-len1.len_below c.zone-item.is)
    (c.in_default-write_on.ensures.draft base) c.in_default-write_on.ensures.carried behind
