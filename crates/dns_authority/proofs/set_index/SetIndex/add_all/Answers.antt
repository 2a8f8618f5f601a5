use Rattle.std.proofs.Common.{◌||◌, ◌∙◌, Bool, ap, arith}
use Rattle.dns_authority.specs.Additional.{is_of_set}
use Rattle.dns_authority.specs.SetIndex.{is_indexed}
use Rattle.dns_authority.proofs.SetIndexLaws.{all_sets, next_set, none_added}
use Rattle.dns_authority.proofs.set_index.SetIndex.add_all.Goals as goal

pub loop-resource_record-init : goal.loop-resource_record-init
loop-resource_record-init c = λ name t. none_added name t (is_indexed c.args.self.now name t) c.args.records.now

pub loop-resource_record-preserved : goal.loop-resource_record-preserved
loop-resource_record-preserved c = λ name t.
    c.in_ok-add.ensures name t
    ∙ ap (λ (b : Bool). is_of_set name t c.resource_record-item.result || b) (c.loop-resource_record.invariant name t)
    ∙ next_set name t (is_indexed c.args.self.now name t) c.args.records.now c.loop-resource_record.resource_record-index c.resource_record-item.result (omega arith) c.resource_record-item.is

pub returns : goal.returns
returns c = λ name t.
    c.loop-resource_record.invariant name t
    ∙ all_sets name t (is_indexed c.args.self.now name t) c.args.records.now c.loop-resource_record.resource_record-index (omega arith)
