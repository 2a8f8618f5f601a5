use Rattle.std.proofs.Common.{◌≡◌, ◌∙◌, ◌++◌, map, ap}
use Rattle.std.specs.Borrow.{Bor}
use Rattle.dns_records.specs.Record.{Record}
use Rattle.dns_zone.specs.Answer.{record_of}
use Rattle.dns_zone.specs.Rows.{rows_of_sets}
use Rattle.dns_zone.specs.internal.Change.{lent_rows, qualified, records_added, records_deleted, rows_lacking}
use Rattle.dns_zone.proofs.RowIndexLaws.{held, pushed_added, pushed_deleted, shown}
use Rattle.dns_zone.proofs.zone.difference.push_set.Goals as goal

pub returns-clause-deleted : goal.returns-clause-deleted
returns-clause-deleted c =
    held (c.push_lacking.new.target.items ≡ c.args.deleted.now.items ++ records_deleted (rows_of_sets c.args.sets.now) c.args.set.now) c.push_lacking-2.result
    (pushed_deleted (rows_of_sets c.args.sets.now) c.args.set.now c.set_fqdn.new.self c.as_slice.result.now c.as_slice-2.result.now c.args.deleted.now.items c.push_lacking.new.target.items
    (c.set_fqdn.ensures ∙ ap qualified c.in_ok-owner.ensures.ok)
    (ap lent_rows c.as_slice.ensures.value ∙ c.in_ok-old.ensures ∙ c.records_at.ensures.rows)
    (ap (map (λ (r : Bor Record). r.now)) c.as_slice-2.ensures.value ∙ c.in_ok-new.ensures)
    c.in_ok-push_lacking.ensures)

pub returns-clause-added : goal.returns-clause-added
returns-clause-added c =
    shown (c.push_lacking-2.new.target.items
    ≡ c.args.added.now.items ++ map (record_of c.set_fqdn.new.self) (rows_lacking (lent_rows c.as_slice-4.result.now) (lent_rows c.as_slice-3.result.now)))
    (c.push_lacking-2.new.target.items ≡ c.args.added.now.items ++ records_added (rows_of_sets c.args.sets.now) c.args.set.now) c.push_lacking-2.result
    (pushed_added (rows_of_sets c.args.sets.now) c.args.set.now c.set_fqdn.new.self c.as_slice-4.result.now c.as_slice-3.result.now c.args.added.now.items c.push_lacking-2.new.target.items
    (c.set_fqdn.ensures ∙ ap qualified c.in_ok-owner.ensures.ok)
    (ap lent_rows c.as_slice-4.ensures.value ∙ c.in_ok-old.ensures ∙ c.records_at.ensures.rows)
    (ap (map (λ (r : Bor Record). r.now)) c.as_slice-3.ensures.value ∙ c.in_ok-new.ensures))
    c.push_lacking-2.ensures
