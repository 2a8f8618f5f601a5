use Rattle.std.proofs.Common.{◌≡◌, ◌+◌, ◌-◌, ◌<◌}
use Rattle.dns_message_bytes.proofs.PlainNameLaws.{Front, Onward}
use Rattle.dns_message_bytes.proofs.view.plain_name.pass_labels.Given as goal

abbrev pub invariant-loop-len : goal.invariant-loop-len
invariant-loop-len l = record {
  front : Front l.fn.decoder l.label_count l.decoder;
  onward : Onward l.fn.decoder l.decoder;
  same_bytes : l.decoder.bytes ≡ l.fn.decoder.bytes;
  room : l.decoder.index < l.fn.decoder.index + 255;
}

abbrev pub decreases-loop-len : goal.decreases-loop-len
decreases-loop-len l = (l.fn.decoder.index + 255) - l.decoder.index
