use Rattle.std.proofs.Common.{◌∙◌, sym}
use Rattle.script_expectations.proofs.ChangeLaws.{is_both, is_missing, is_unexpected}
use Rattle.script_expectations.proofs.shortest.next_change.Goals as goal

pub returns-then-eq : goal.returns-then-eq
returns-then-eq c = is_both c.args.expected.now c.args.printed.now c.args.i c.args.j c.if-i-expected.false c.if-j-printed.false (sym c.eq.ensures ∙ c.if-eq.true)

pub returns-then-at : goal.returns-then-at
returns-then-at c =
    is_missing c.args.expected.now c.args.printed.now c.args.lengths.now.rows.items c.args.i c.args.j c.at.result c.at-2.result
    c.if-i-expected.false c.if-j-printed.false c.requires (sym c.eq.ensures ∙ c.if-eq.false) c.at.ensures c.at-2.ensures c.if-at.true

pub returns-else-at : goal.returns-else-at
returns-else-at c =
    is_unexpected c.args.expected.now c.args.printed.now c.args.lengths.now.rows.items c.args.i c.args.j c.at.result c.at-2.result
    c.if-i-expected.false c.if-j-printed.false c.requires (sym c.eq.ensures ∙ c.if-eq.false) c.at.ensures c.at-2.ensures c.if-at.false
