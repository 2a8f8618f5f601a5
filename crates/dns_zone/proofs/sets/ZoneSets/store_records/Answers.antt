use Rattle.std.proofs.Common.{◌≡◌, ◌-◌, ◌+◌, ◌<◌, ◌∙◌, ℕ, List, take, drop, length, get_or, refl, sym, ap, suc, arith}
use Rattle.std.proofs.lemmas.List.{drop_all}
use Rattle.dns_updates.specs.declared.changes.changed_set.ChangedSet.{ChangedSet}
use Rattle.dns_zone.specs.Sets.{set_at}
use Rattle.dns_zone.specs.internal.Store.{stored_at}
use Rattle.dns_zone.proofs.StoreLaws.{store_step, taken_item, taken_before, keys_written, len_written}
use Rattle.dns_zone.proofs.sets.ZoneSets.store_records.Goals as goal

pub loop-index-init : goal.loop-index-init
loop-index-init c = (
  omega arith,
  refl,
  refl,
  refl,
  λ k. sym (ap (λ (cs : List ChangedSet). stored_at cs k (set_at c.args.self.now k)) (drop_all (length c.args.changed.now) c.args.changed.now (omega arith))),
)

pub loop-index-preserved : goal.loop-index-preserved
loop-index-preserved c =
    let i : ℕ = c.loop-index.index - 1 in
    let x : ChangedSet = get_or c.loop-index.changed i c.index-changed-index.result in
    let is : x ≡ get_or c.loop-index.changed i x = ap (get_or c.loop-index.changed i) c.index-changed-index.is in
    let next : suc i ≡ c.loop-index.index = omega (arith, c.loop-index-test.true) in
    let more : i + 1 ≡ c.loop-index.index = omega (arith, c.loop-index-test.true) in
    let same : take (suc i) c.loop-index.changed ≡ take (suc i) c.args.changed.now =
    ap (λ (n : ℕ). take n c.loop-index.changed) next ∙ c.loop-index.invariant.2 ∙ ap (λ (n : ℕ). take n c.args.changed.now) (sym next) in
    let inside : i < length c.args.changed.now = omega (arith, c.loop-index-test.true, c.loop-index.invariant.0) in
    let here : i < length c.loop-index.changed = omega (arith, c.loop-index-test.true, c.loop-index.invariant.0, c.loop-index.invariant.1) in (
      omega (arith, c.loop-index.invariant.0),
      len_written c.loop-index.changed i c.store_one.new.set ∙ c.loop-index.invariant.1,
      taken_before c.loop-index.changed c.args.changed.now i c.store_one.new.set same,
      keys_written c.loop-index.changed i x c.store_one.new.set is c.store_one.ensures.key ∙ c.loop-index.invariant.3,
      λ k. store_step c.args.changed.now i x k inside (taken_item c.loop-index.changed c.args.changed.now i x same here is) (set_at c.args.self.now k) (set_at c.loop-index.self k) _
          (c.loop-index.invariant.4 k ∙ ap (λ (n : ℕ). stored_at (drop n c.args.changed.now) k (set_at c.args.self.now k)) (sym more))
          (c.store_one.ensures.sets k),
    )
