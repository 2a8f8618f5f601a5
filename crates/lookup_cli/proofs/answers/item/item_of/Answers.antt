use Rattle.std.proofs.Common.{rules}
use Rattle.lookup_cli.proofs.ItemLaws.{typed-item}
use Rattle.lookup_cli.proofs.answers.item.item_of.Goals as goal

pub returns-in_ok-from_str-in-Some-2 : goal.returns-in_ok-from_str-in-Some-2
returns-in_ok-from_str-in-Some-2 c =
    typed-item c.args.line.now c.args.default _ (c.in-Some.name, c.in-Some.rest) (rw c.in-Some.is at c.split_at_space.ensures) (search rules)
    (search rules) (search rules)
