use Rattle.std.proofs.Common.{rules, tests}
use Rattle.std.proofs.lemmas.Iterator.{YieldsList-from_slice}
use Rattle.std.proofs.lemmas.Iterator.Search.{find_from_yields_List}
use Rattle.dns_data.specs.rdata.{same_data}
use Rattle.dns_records.specs.Record.{Record}
use Rattle.dns_zone.proofs.RowIndexLaws.{found_row}
use Rattle.dns_zone.proofs.zone.difference.find.Goals as goal

pub returns : goal.returns
returns c =
    found_row c.args.rdata.now c.args.stored.now c.find.result
    (find_from_yields_List (λ (x : Record). same_data x.rdata c.args.rdata.now) _ _ c.find.result c.find.ensures.ran
    (YieldsList-from_slice c.args.stored.now cc) (λ x b q k. search (rules, tests)))
