use Rattle.std.proofs.Common.{length}
use Rattle.dns_wire.specs.Decoder.{rest}
use Rattle.dns_message_bytes.proofs.OptionLaws.{Front, Onward}
use Rattle.dns_message_bytes.proofs.view.option_view.are_options.Given as goal

abbrev pub invariant-loop-decoder : goal.invariant-loop-decoder
invariant-loop-decoder l = record {
  front : Front l.bytes (rest l.decoder);
  onward : Onward l.bytes (rest l.decoder);
}

abbrev pub decreases-loop-decoder : goal.decreases-loop-decoder
decreases-loop-decoder l = length (rest l.decoder)
