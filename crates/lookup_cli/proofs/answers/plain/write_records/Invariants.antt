use Rattle.std.proofs.Common.{flat_map, take}
use Rattle.std.specs.Fmt.{HasWritten, IsPlainFormatter}
use Rattle.lookup_cli.specs.answers.Plain.{record_line}
use Rattle.lookup_cli.proofs.answers.plain.write_records.Given as goal

-- the records so far are written
abbrev pub invariant-loop-record : goal.invariant-loop-record
invariant-loop-record g l = IsPlainFormatter l.initial.f
    → HasWritten g.W.Write.write_str_gives l.initial.f (flat_map record_line (take l.record-index l.records)) l.f
