use Rattle.std.proofs.Common.{subst}
use Rattle.dns_zone.specs.Rows.{ZoneContent}
use Rattle.dns_zone.specs.internal.Rise.{HasLowerKeys}
use Rattle.dns_zone.proofs.StartLaws.{lower_keys}
use Rattle.dns_zone.proofs.zone.Zone.lower_keys.Goals as goal

pub returns : goal.returns
returns c = subst (λ (zone : ZoneContent). HasLowerKeys zone.rows) c.self.view_is (lower_keys c.self.inside.sets)
