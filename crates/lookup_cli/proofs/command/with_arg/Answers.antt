use Rattle.lookup_cli.proofs.CommandLaws.{makes_with_arg}
use Rattle.lookup_cli.proofs.command.with_arg.Goals as goal

pub returns : goal.returns
returns c = λ app rule is_app is_rule.
    makes_with_arg c.args.command c.arg.result c.args.arg c.in_ok-command.field-0 c.in_ok-arg.field-0 app rule c.in_ok-command.was c.in_ok-arg.was c.arg.ensures is_app is_rule
