use Rattle.std.proofs.Common.{codes}
use Rattle.lookup_cli.specs.Command.{option}
use Rattle.lookup_cli.proofs.command.strategy_option.Goals as goal

pub returns : goal.returns
returns c = c.without_update.ensures (option (codes "strategy")) c.option.ensures
