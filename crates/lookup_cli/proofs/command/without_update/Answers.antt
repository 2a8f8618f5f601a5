use Rattle.std.proofs.lemmas.Result.{IfOk-weaker}
use Rattle.lookup_cli.proofs.CommandLaws.{excludes}
use Rattle.lookup_cli.proofs.command.without_update.Goals as goal

pub returns : goal.returns
returns c = λ rule is.
    IfOk-weaker c.conflicts_with.result _ _ (λ arg adds. excludes rule c.args.arg arg _ is adds) c.conflicts_with.ensures
