use Rattle.std.proofs.Common.{◌≡◌, ◌+◌, length}
use Rattle.dns_wire.specs.Encoder.{state_of}
use Rattle.dns_zone.specs.Section.{remaining_records, section_records}
use Rattle.dns_zone.proofs.SectionLaws.{WritesSection}
use Rattle.dns_zone.proofs.zone.section.Section.emit_fitting.Given as goal

abbrev pub invariant-loop-count : goal.invariant-loop-count
invariant-loop-count l = record {
  written : WritesSection (state_of l.fn.encoder) (state_of l.encoder) l.self (remaining_records l.rows) l.count;
  left : l.count + length (remaining_records l.rows) ≡ length (section_records l.self);
}
