use Rattle.std.proofs.Common.{◌≡◌, ◌-◌, ◌+◌, ◌∙◌, List, [], drop, length, ap, sym, arith}
use Rattle.std.proofs.lemmas.List.{drop_all}
use Rattle.dns_records.specs.Record.{Record}
use Rattle.dns_server.specs.SetTtls.{last_ttl, restated}
use Rattle.dns_server.specs.internal.SetTtls.{set_place, AreLastTtls}
use Rattle.dns_server.proofs.SetTtlLaws.{stepped}
use Rattle.dns_server.proofs.server.set_ttls.restated.Goals as goal

pub loop-end-init : goal.loop-end-init
loop-end-init c =
    let none : drop (length c.args.updates.now) c.args.updates.now ≡ [] = drop_all (length c.args.updates.now) c.args.updates.now (omega arith) in (
      omega arith,
      (c.new-records.ensures.items ∙ sym (ap (restated c.args.zone.now.rows) none), λ r. c.requires (set_place r) ∙ sym (ap (λ (xs : List Record). last_ttl xs r) none)),
    )

pub loop-end-preserved : goal.loop-end-preserved
loop-end-preserved c =
    let next : (c.loop-end.end - 1) + 1 ≡ c.loop-end.end = omega arith in
    let records : c.restate_last.new.records.items ≡ restated c.args.zone.now.rows (drop (c.loop-end.end - 1) c.args.updates.now) =
    stepped (λ (xs : List Record). c.restate_last.new.records.items ≡ restated c.args.zone.now.rows xs) c.args.updates.now c.loop-end.end (c.loop-end.end - 1) c.index-updates-place.result
    next c.loop-end.invariant.0 c.index-updates-place.is
    (c.in_ok-restate_last.ensures.records (drop c.loop-end.end c.args.updates.now) c.loop-end.invariant.1.1 c.loop-end.invariant.1.0) in
    let last : AreLastTtls (drop (c.loop-end.end - 1) c.args.updates.now) c.restate_last.new.ttls =
    stepped (λ (xs : List Record). AreLastTtls xs c.restate_last.new.ttls) c.args.updates.now c.loop-end.end (c.loop-end.end - 1) c.index-updates-place.result
    next c.loop-end.invariant.0 c.index-updates-place.is (c.in_ok-restate_last.ensures.last (drop c.loop-end.end c.args.updates.now) c.loop-end.invariant.1.1) in
    (omega arith, (records, last))
