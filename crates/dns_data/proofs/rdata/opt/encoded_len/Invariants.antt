use Rattle.std.proofs.Common.{◌≡◌, ◌+◌, ◌*◌, ◌≤◌, drop, length}
use Rattle.std.specs.Prelude.{flat_map}
use Rattle.dns_data.specs.Field.{option_form}
use Rattle.dns_data.proofs.rdata.opt.encoded_len.Given as goal

-- the options that are left complete the length, and each has at most 65,539 bytes
abbrev pub invariant-loop-option : goal.invariant-loop-option
invariant-loop-option l = record {
  completes : l.len + length (flat_map option_form (drop l.option-index l.options)) ≡ length (flat_map option_form l.options);
  bounded : l.len ≤ 65539 * l.option-index;
}
