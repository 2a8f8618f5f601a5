use Rattle.std.proofs.Common.{◌≡◌, ◌∷◌, ◌++◌, [], List, subst, sym, rules}
use Rattle.dns_records.specs.RecordSet.{RecordSetValue}
use Rattle.dns_zone_file.specs.internal.SetIndex.{IsIndexOf}
use Rattle.dns_zone_file.proofs.SetIndexLaws.{index_push, placed_as}
use Rattle.dns_zone_file.proofs.record_sets.push_set.Goals as goal

pub returns-clause-indexed : goal.returns-clause-indexed
returns-clause-indexed c =
    let sets : c.push_reserved.new.self.items ≡ c.args.sets.now.items ++ c.args.set ∷ [] = search rules in
    subst (λ (l : List RecordSetValue). IsIndexOf c.insert.new.self l) (sym sets)
    (index_push c.args.index.now c.insert.new.self c.args.sets.now.items c.args.set c.requires.indexed c.requires.absent
    (placed_as c.args.index.now c.insert.new.self (search rules) (search rules) (search rules) c.in_ok-insert.ensures.ok))
