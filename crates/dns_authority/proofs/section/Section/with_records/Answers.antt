use Rattle.dns_authority.specs.SetIndex.{is_indexed}
use Rattle.dns_authority.proofs.SetIndexLaws.{more_records}
use Rattle.dns_authority.proofs.section.Section.with_records.Goals as goal

pub returns : goal.returns
returns c = λ answers is. (
  c.in_ok-joined.ensures,
  λ name t.
      more_records name t (is_indexed c.add_all.new.self name t) (is_indexed c.args.self.index name t) answers c.args.self.records c.args.further
      c.as_slice.result.now c.in_ok-joined.field-0 (c.in_ok-add_all.ensures name t) c.as_slice.ensures c.in_ok-joined.ensures (is name t),
)
