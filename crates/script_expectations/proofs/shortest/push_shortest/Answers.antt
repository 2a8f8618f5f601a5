use Rattle.std.proofs.Common.{◌≡◌, ◌++◌, ◌∙◌, arith}
use Rattle.script_expectations.specs.Change.{change_of, changes_of}
use Rattle.script_expectations.specs.Line.{texts}
use Rattle.script_expectations.specs.Shortest.{all_changed, shortest}
use Rattle.script_expectations.proofs.ChangeLaws.{counts, ended_of, on_ok_then, shortens_begins, shortens_ends, shortens_goes_on}
use Rattle.script_expectations.proofs.CommonLengthLaws.{texts_len}
use Rattle.script_expectations.proofs.shortest.push_shortest.Goals as goal

pub loop-change-init : goal.loop-change-init
loop-change-init c = shortens_begins (changes_of c.args.changes.now.items) c.args.expected.now c.args.printed.now

pub loop-change-smaller : goal.loop-change-smaller
loop-change-smaller c =
    let k = counts (change_of c.in-Some.change) in
    let some = k.2 in
    let a = texts_len c.args.expected.now in
    let b = texts_len c.args.printed.now in
    let lt = c.in-Some.ensures.in_expected in
    let less = c.in-Some.ensures.in_printed in
    omega (arith, k.0, k.1, some, a, b, lt, less, c.expected_count-i.ensures, c.printed_count-j.ensures)

pub loop-change-preserved : goal.loop-change-preserved
loop-change-preserved c =
    shortens_goes_on (changes_of c.args.changes.now.items) c.args.expected.now c.args.printed.now c.loop-change.changes.items c.push.new.self.items
    c.in-Some.change c.loop-change.i c.loop-change.j c.expected_count-i.result c.printed_count-j.result c.loop-change.invariant c.in-Some.ensures
    c.in_ok-push.ensures.items c.expected_count-i.ensures c.printed_count-j.ensures

pub returns : goal.returns
returns c =
    let before = changes_of c.args.changes.now.items in
    let expected = c.args.expected.now in
    let printed = c.args.printed.now in
    on_ok_then c.push_all.result
    (changes_of c.push_all.new.changes.items ≡ changes_of c.loop-change.changes.items ++ all_changed (texts c.split_at.result.1.now) (texts c.split_at-2.result.1.now))
    (changes_of c.push_all.new.changes.items ≡ before ++ shortest (texts expected) (texts printed))
    (λ e. e ∙ shortens_ends before expected printed c.split_at.result.1.now c.split_at-2.result.1.now (changes_of c.loop-change.changes.items)
    c.loop-change.i c.loop-change.j c.loop-change.invariant
    (ended_of expected printed c.loop-change.i c.loop-change.j c.next_change.result c.next_change.ensures c.in_default.is)
    c.split_at.ensures.back c.split_at-2.ensures.back)
    c.push_all.ensures
