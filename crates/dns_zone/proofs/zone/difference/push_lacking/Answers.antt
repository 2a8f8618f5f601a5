use Rattle.std.proofs.Common.{◌≡◌, ◌++◌, List, map, not, ap, subst}
use Rattle.std.specs.Prelude.{OnOk}
use Rattle.dns_differences.specs.Difference.{has_row}
use Rattle.dns_records.specs.declared.row.Row.{Row}
use Rattle.dns_zone.specs.Answer.{record_of}
use Rattle.dns_zone.specs.internal.Change.{has_entry, lent_rows}
use Rattle.dns_zone.proofs.RowIndexLaws.{filter_alike}
use Rattle.dns_zone.proofs.zone.difference.push_lacking.Goals as goal

pub returns : goal.returns
returns c =
    subst (λ (l : List Row). OnOk c.push_missing.result (c.push_missing.new.target.items ≡ c.args.target.now.items ++ map (record_of c.args.owner.now) l))
    (filter_alike (λ row. not (has_entry c.in_ok-index.index.keys row)) (λ row. not (has_row (lent_rows c.args.others.now) row)) (λ row. ap not (c.in_ok-index.ensures row)) (lent_rows c.args.records.now))
    c.push_missing.ensures
