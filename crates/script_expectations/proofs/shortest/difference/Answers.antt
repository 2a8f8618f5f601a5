use Rattle.script_expectations.proofs.ChangeLaws.{difference_by}
use Rattle.script_expectations.proofs.shortest.difference.Goals as goal

pub returns : goal.returns
returns c =
    difference_by c.args.expected.now c.args.printed.now c.split_at.result.0.now c.split_at.result.1.now c.split_at-2.result.1.now c.same_len-same.result
    c.new-changes.result.items c.push_both.new.changes.items c.push_replaced.new.changes.items c.same_len-same.ensures.len c.new-changes.ensures.items
    c.split_at.ensures.front c.split_at.ensures.back c.split_at-2.ensures.back c.in_ok-push_both.ensures c.in_ok-push_replaced.ensures
