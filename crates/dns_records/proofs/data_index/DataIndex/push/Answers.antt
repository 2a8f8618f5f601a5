use Rattle.std.proofs.Common.{◌≡◌, ◌∷◌, ◌++◌, [], length, refl, rules}
use Rattle.std.proofs.lemmas.Result.{on_ok_weaker}
use Rattle.dns_records.proofs.DataIndexLaws.{of_filled, one_more_of}
use Rattle.dns_records.proofs.data_index.DataIndex.push.Goals as goal

pub returns-then-self-eq-MAX_UNINDEXED-clause-ok : goal.returns-then-self-eq-MAX_UNINDEXED-clause-ok
returns-then-self-eq-MAX_UNINDEXED-clause-ok c =
    let filled : c.args.self.now.additions ≡ 16 = search rules in
    on_ok_weaker c.enter.result
    (λ entered added same. of_filled _ (c.args.records.now ++ added ∷ []) (one_more_of c.args.self.now.positions c.enter.new.positions c.args.records.now added c.args.rdata.now (length c.args.records.now) same refl (c.requires.has_positions filled) entered))
    c.enter.ensures.ok

pub returns-clause-ok : goal.returns-clause-ok
returns-clause-ok c =
    λ added same. of_filled _ (c.args.records.now ++ added ∷ []) (one_more_of c.fill.new.positions c.enter-2.new.positions c.args.records.now added c.args.rdata.now (length c.args.records.now) same refl c.in_ok-fill.ensures c.in_ok-enter.ensures.ok)
