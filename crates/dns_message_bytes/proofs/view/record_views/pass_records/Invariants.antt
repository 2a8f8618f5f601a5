use Rattle.std.proofs.Common.{◌≡◌}
use Rattle.dns_message_bytes.specs.view.RecordView.{ReadsRaw}
use Rattle.dns_message_bytes.proofs.PassedLaws.{PassedItems}
use Rattle.dns_message_bytes.proofs.view.record_views.pass_records.Given as goal

abbrev pub invariant-loop : goal.invariant-loop
invariant-loop l = record {
  passed : PassedItems (ReadsRaw l.fn.decoder.bytes) l.fn.decoder.index l.counter l.decoder.index;
  same_bytes : l.decoder.bytes ≡ l.fn.decoder.bytes;
}
