use Rattle.std.proofs.Common.{rules}
use Rattle.dns_wire.proofs.SuffixLaws.{filter_from_retain_by}
use Rattle.zone_lines.specs.warnings.Warning.{is_about_origin}
use Rattle.zone_check.proofs.origin.keep_origin_warnings.Goals as goal

pub returns : goal.returns
returns c = filter_from_retain_by _ (λ w. is_about_origin w.kind) _ (λ x b q k. search rules) _ _ c.retain.ensures.filtered
