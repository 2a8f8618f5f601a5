use Rattle.std.proofs.Common.{flat_map, take}
use Rattle.std.specs.Fmt.{HasWritten, IsPlainFormatter}
use Rattle.lookup_cli.specs.answers.JsonRecords.{other_record}
use Rattle.lookup_cli.proofs.answers.json_records.write_others.Given as goal

-- the records so far are written
abbrev pub invariant-loop-found : goal.invariant-loop-found
invariant-loop-found g l = IsPlainFormatter l.initial.f
    → HasWritten g.W.Write.write_str_gives l.initial.f (flat_map other_record (take l.found-index l.records)) l.f
