use Rattle.std.proofs.Common.{take}
use Rattle.std.specs.List.{AllZip}
use Rattle.lookup_cli.specs.Values.{SpellsName}
use Rattle.lookup_cli.proofs.ArgumentsLaws.{texts_now}
use Rattle.lookup_cli.proofs.arguments.names_of.Given as goal

-- the names of the texts so far
abbrev pub invariant-loop-text : goal.invariant-loop-text
invariant-loop-text l = AllZip SpellsName (texts_now (take l.text-index l.texts)) l.names.items
