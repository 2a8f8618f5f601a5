use Rattle.std.proofs.Common.{rules}
use Rattle.std.proofs.lemmas.Fn.{always_returns_same}
use Rattle.lookup_cli.proofs.ItemLaws.{splits-at-space}
use Rattle.lookup_cli.proofs.answers.item.split_at_space.Goals as goal

pub returns : goal.returns
returns c =
    splits-at-space _ _ c.args.text.now c.split_once.result c.split_once.ensures.cases
    (always_returns_same _ _ _ (λ a r f' k. search rules))
