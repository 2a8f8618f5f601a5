use Rattle.std.proofs.Common.{◌≡◌, ◌==◌, ◌∙◌, List, ap, sym, subst, length, arith}
use Rattle.std.proofs.lemmas.Bool.Decides.{nat_tests}
use Rattle.std.specs.List.{list_all}
use Rattle.dns_records.specs.Record.{Record}
use Rattle.dns_server.specs.SetTtls.{restated}
use Rattle.dns_server.specs.internal.SetTtls.{kept_ttl, AreLastTtls}
use Rattle.dns_server.proofs.SetTtlLaws.{unchanged}
use Rattle.dns_server.proofs.server.set_ttls.completed.Goals as goal

pub returns-then-are_kept : goal.returns-then-are_kept
returns-then-are_kept c =
    let none : length c.in_ok-records.records.items ≡ 0 = grind (arith, nat_tests, c.if-is_empty.ensures) in
    unchanged c.args.zone.now.rows c.args.update.now c.restated.new.ttls c.in_ok-records.records.items
    (c.in_ok-records.ensures.records ∙ ap (restated c.args.zone.now.rows) c.as_slice-updates.ensures)
    (subst (λ (xs : List Record). AreLastTtls xs c.restated.new.ttls) c.as_slice-updates.ensures c.in_ok-records.ensures.last)
    none (ap (list_all (λ (r : Record). kept_ttl c.restated.new.ttls r == r.ttl)) (sym c.as_slice-updates.ensures) ∙ sym c.if-are_kept.ensures)
