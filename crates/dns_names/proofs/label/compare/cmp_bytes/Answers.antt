use Rattle.std.proofs.Common.{◌<◌, length, sym, ◌∙◌, arith}
use Rattle.dns_names.proofs.IterLaws.{by_length}
use Rattle.dns_names.proofs.label.compare.cmp_bytes.Goals as goal
use Rattle.dns_names.proofs.label.compare.cmp_bytes.Goals.{then-loop-index-test+else-index-other, else-loop-index-test}

pub returns : goal.returns
returns g c =
    let inv = c.loop-index.invariant in
    let over : c.loop-index.index < length c.args.own.now → c.loop-index.index < length c.args.other.now → ⊥ =
    (λ p q. elim c.loop-index-test.branch [ then-loop-index-test+else-index-other w ↦ omega arith | else-loop-index-test w ↦ omega arith ]) in
    c.cmp.ensures ∙ by_length g.F.LabelCmp.byte_order c.loop-index.index c.args.own.now c.args.other.now inv.within inv.within_other over ∙ sym inv.same
