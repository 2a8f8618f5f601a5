use Rattle.std.proofs.Common.{codes}
use Rattle.lookup_cli.specs.Command.{option, with_short}
use Rattle.lookup_cli.proofs.CommandLaws.{shortened}
use Rattle.lookup_cli.proofs.command.type_option.Goals as goal

pub returns : goal.returns
returns c =
    c.without_update.ensures (with_short 116 (option (codes "type")))
    (shortened (option (codes "type")) c.option-option.result c.short.result 116 c.option-option.ensures c.short.ensures)
