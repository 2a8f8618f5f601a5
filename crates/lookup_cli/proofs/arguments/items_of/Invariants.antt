use Rattle.std.proofs.Common.{take, length, ◌==◌}
use Rattle.std.specs.List.{AllZip}
use Rattle.lookup_cli.specs.Arguments.{IsItemFor, names_among}
use Rattle.lookup_cli.proofs.ArgumentsLaws.{texts_now}
use Rattle.lookup_cli.proofs.arguments.items_of.Given as goal

-- the items of the names so far
abbrev pub invariant-loop-text : goal.invariant-loop-text
invariant-loop-text l =
    AllZip (IsItemFor l.question l.reverse (length l.texts == 1)) (names_among (texts_now (take l.text-index l.texts))) l.items.items
