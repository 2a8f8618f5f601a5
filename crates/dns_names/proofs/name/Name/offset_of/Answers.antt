use Rattle.std.proofs.Common.{◌≡◌, ◌<◌, ◌+◌, [], ℕ, List, get_or, length, take, ap, ◌∙◌, arith}
use Rattle.dns_wire.specs.Writing.{labels_form}
use Rattle.dns_wire.proofs.NameLaws.{length-labels_form}
use Rattle.dns_names.proofs.WireLaws.{len_after, front-next, front_le}
use Rattle.dns_names.proofs.name.Name.offset_of.Goals as goal

pub bounds-wire-offset : goal.bounds-wire-offset
bounds-wire-offset c =
    let labels = c.args.self.now.labels in
    let lt : c.loop-passed.passed < length labels = omega (arith, c.loop-passed-test.true, c.requires) in
    omega (arith, c.loop-passed.invariant, front-next labels c.loop-passed.passed lt, front_le (c.loop-passed.passed + 1) labels, ap (λ (xs : List ℕ). length xs) c.wire-wire.ensures.form)

pub loop-passed-preserved : goal.loop-passed-preserved
loop-passed-preserved c =
    let labels = c.args.self.now.labels in
    let lt : c.loop-passed.passed < length labels = omega (arith, c.loop-passed-test.true, c.requires) in
    let len : get_or c.wire-wire.result.now c.loop-passed.offset 0 ≡ length (get_or labels c.loop-passed.passed []) =
    ap (λ (xs : List ℕ). get_or xs c.loop-passed.offset 0) c.wire-wire.ensures.form
    ∙ ap (λ (n : ℕ). get_or (labels_form labels) n 0) c.loop-passed.invariant ∙ len_after labels c.loop-passed.passed lt in
    omega (arith, c.loop-passed.invariant, len, front-next labels c.loop-passed.passed lt)

pub overflow_add-offset-in-loop-passed : goal.overflow_add-offset-in-loop-passed
overflow_add-offset-in-loop-passed c =
    let labels = c.args.self.now.labels in
    let lt : c.loop-passed.passed < length labels = omega (arith, c.loop-passed-test.true, c.requires) in
    let len : get_or c.wire-wire.result.now c.loop-passed.offset 0 ≡ length (get_or labels c.loop-passed.passed []) =
    ap (λ (xs : List ℕ). get_or xs c.loop-passed.offset 0) c.wire-wire.ensures.form
    ∙ ap (λ (n : ℕ). get_or (labels_form labels) n 0) c.loop-passed.invariant ∙ len_after labels c.loop-passed.passed lt in
    omega (arith, c.loop-passed.invariant, len, front-next labels c.loop-passed.passed lt, front_le (c.loop-passed.passed + 1) labels, length-labels_form labels, c.wire-wire.ensures.labels.fits)

pub returns-clause-value : goal.returns-clause-value
returns-clause-value c =
    let all : c.loop-passed.passed ≡ c.args.index = omega (arith, c.loop-passed-test.false, c.loop-passed.auto.passed-end) in
    c.loop-passed.invariant ∙ ap (λ (n : ℕ). length (labels_form (take n c.args.self.now.labels))) all

pub returns-clause-within : goal.returns-clause-within
returns-clause-within c = omega (arith, c.loop-passed.invariant, front_le c.loop-passed.passed c.args.self.now.labels)
