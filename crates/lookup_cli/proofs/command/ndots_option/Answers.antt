use Rattle.std.proofs.Common.{rules, ◌≡◌, codes, Some}
use Rattle.lookup_cli.specs.Command.{between, number}
use Rattle.lookup_cli.proofs.CommandLaws.{numbered}
use Rattle.lookup_cli.proofs.command.ndots_option.Goals as goal

pub returns : goal.returns
returns c =
    let is : c.value_parser-2.result.value_parser ≡ Some (between 0 15) = search rules in
    c.without_update.ensures (number (codes "ndots") (between 0 15))
    (numbered (codes "ndots") c.option-option.result c.value_parser-2.result (between 0 15) c.option-option.ensures c.value_parser-2.ensures.others is)
