use Rattle.std.proofs.Common.{drop}
use Rattle.dns_data.specs.Field.{IsSoundValue, Options}
use Rattle.dns_message_bytes.proofs.soundness.rdata.are_sound_options.Given as goal

-- those that are left are sound exactly if all are
abbrev pub invariant-loop-option : goal.invariant-loop-option
invariant-loop-option l = record {
  back : IsSoundValue Options (drop l.option-index l.options) → IsSoundValue Options l.options;
  forth : IsSoundValue Options l.options → IsSoundValue Options (drop l.option-index l.options);
}
