use Rattle.std.proofs.Common.{codes}
use Rattle.lookup_cli.specs.Command.{list}
use Rattle.lookup_cli.proofs.command.search_option.Goals as goal

pub returns : goal.returns
returns c = c.without_update.ensures (list (codes "search")) c.list.ensures
