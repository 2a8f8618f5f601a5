use Rattle.std.proofs.Common.{◌++◌, ◌∙◌, Bool, cond, List, map, ap, sym}
use Rattle.dns_records.specs.Record.{Record}
use Rattle.dns_records.specs.declared.row.Row.{Row}
use Rattle.dns_zone.specs.Answer.{record_of}
use Rattle.dns_authority.specs.Additional.{rows_by}
use Rattle.dns_authority.proofs.section.Section.with_set.Goals as goal

pub returns-then-contains : goal.returns-then-contains
returns-then-contains c = λ answers is.
    let host = c.args.host.now in
    let added : List Record = c.args.self.records ++ map (record_of host) (rows_by c.args.kind c.args.zones.now host c.args.record_type) in (
      sym (ap (λ (b : Bool). cond b c.args.self.records added) (sym (is host c.args.record_type) ∙ sym c.contains.ensures ∙ c.if-contains.true)),
      is,
    )

pub returns : goal.returns
returns c = λ answers is.
    let host = c.args.host.now in
    let rows : List Row = rows_by c.args.kind c.args.zones.now host c.args.record_type in
    let grown = c.in_ok-grown.ensures answers is in
    let copied = c.in_ok-copies.ensures ∙ ap (map (record_of host)) c.in_ok-stored.ensures in (
      grown.0 ∙ ap (λ (further : List Record). c.args.self.records ++ further) copied
          ∙ sym (ap (λ (b : Bool). cond b c.args.self.records (c.args.self.records ++ map (record_of host) rows)) (sym (is host c.args.record_type) ∙ sym c.contains.ensures ∙ c.if-contains.false)),
      grown.1,
    )
