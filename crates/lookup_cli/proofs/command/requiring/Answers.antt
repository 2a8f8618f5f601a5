use Rattle.std.proofs.lemmas.Result.{IfOk-weaker}
use Rattle.lookup_cli.proofs.CommandLaws.{requires}
use Rattle.lookup_cli.proofs.command.requiring.Goals as goal

pub returns : goal.returns
returns c = λ rule is.
    IfOk-weaker c.requires_arg.result _ _ (λ arg adds. requires rule c.args.arg arg _ is adds) c.requires_arg.ensures
