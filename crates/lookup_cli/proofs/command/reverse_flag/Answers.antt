use Rattle.std.proofs.Common.{codes}
use Rattle.lookup_cli.specs.Command.{flag, with_short}
use Rattle.lookup_cli.proofs.CommandLaws.{shortened}
use Rattle.lookup_cli.proofs.command.reverse_flag.Goals as goal

pub returns : goal.returns
returns c =
    c.without_update.ensures (with_short 120 (flag (codes "reverse")))
    (shortened (flag (codes "reverse")) c.flag-flag.result c.short.result 120 c.flag-flag.ensures c.short.ensures)
