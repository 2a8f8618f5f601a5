use Rattle.std.proofs.Common.{not, rules}
use Rattle.dns_wire.proofs.SuffixLaws.{filter_from_retain_by}
use Rattle.zone_lines.specs.warnings.Warning.{is_about_servers}
use Rattle.zone_check.proofs.origin.drop_server_warnings.Goals as goal

pub returns : goal.returns
returns c = filter_from_retain_by _ (λ w. not (is_about_servers w.kind)) _ (λ x b q k. search rules) _ _ c.retain.ensures.filtered
