use Rattle.std.proofs.Common.{rules, ◌≡◌, codes, Some}
use Rattle.lookup_cli.specs.Command.{between}
use Rattle.lookup_cli.proofs.CommandLaws.{numbered}
use Rattle.lookup_cli.proofs.command.attempts_option.Goals as goal

pub returns : goal.returns
returns c =
    let is : c.value_parser-2.result.value_parser ≡ Some (between 1 1000) = search rules in
    numbered (codes "attempts") c.option.result c.value_parser-2.result (between 1 1000) c.option.ensures c.value_parser-2.ensures.others is
