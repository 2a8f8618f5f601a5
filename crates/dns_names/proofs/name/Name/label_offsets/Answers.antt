use Rattle.std.proofs.Common.{◌+◌, ℕ, List, length, take, ap, ◌∙◌, arith}
use Rattle.std.proofs.lemmas.List.{length-set}
use Rattle.dns_wire.specs.Writing.{labels_form}
use Rattle.dns_names.proofs.OffsetLaws.{few, offset_small, offset_within, offset_next, one_more}
use Rattle.dns_names.proofs.name.Name.label_offsets.Goals as goal

pub overflow_cast-offsets : goal.overflow_cast-offsets
overflow_cast-offsets c = omega (arith, c.loop-index.invariant.next, offset_small c.args.self.now.labels c.loop-index.index c.wire-wire.ensures.labels)

pub bounds-offsets-index : goal.bounds-offsets-index
bounds-offsets-index c = omega (arith, few c.args.self.now.labels c.wire-wire.ensures.labels)

pub bounds-wire-offset : goal.bounds-wire-offset
bounds-wire-offset c = omega (arith, ap (λ (xs : List ℕ). length xs) c.wire-wire.ensures.form, c.loop-index.invariant.next, offset_within c.args.self.now.labels c.loop-index.index (omega arith))

pub overflow_add-offset-in-loop-index : goal.overflow_add-offset-in-loop-index
overflow_add-offset-in-loop-index c = omega (arith, offset_next c.wire-wire.result.now c.args.self.now.labels c.loop-index.index c.loop-index.offset c.wire-wire.ensures.form (omega arith) c.loop-index.invariant.next, offset_small c.args.self.now.labels (c.loop-index.index + 1) c.wire-wire.ensures.labels)

pub loop-index-preserved : goal.loop-index-preserved
loop-index-preserved c = record {
  many = length-set c.loop-index.offsets c.loop-index.index c.loop-index.offset ∙ c.loop-index.invariant.many;
  next = offset_next c.wire-wire.result.now c.args.self.now.labels c.loop-index.index c.loop-index.offset c.wire-wire.ensures.form (omega arith) c.loop-index.invariant.next;
  all = one_more c.loop-index.offsets c.loop-index.index c.loop-index.offset (λ i. length (labels_form (take i c.args.self.now.labels))) (omega (arith, c.loop-index.invariant.many, few c.args.self.now.labels c.wire-wire.ensures.labels)) c.loop-index.invariant.next c.loop-index.invariant.all;
}
