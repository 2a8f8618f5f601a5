use Rattle.std.proofs.Common.{◌++◌, List, length, map}
use Rattle.dns_keys.specs.File.{FaultFrom, KeysFrom, KeyValue, key_value}
use Rattle.dns_keys.specs.declared.error.KeyFileError.{KeyFileError}
use Rattle.dns_keys.proofs.file.parse_keys.Given as goal

-- the keys that are left complete those of the text, and its first fault is that of what is left
abbrev pub invariant-loop-keys : goal.invariant-loop-keys
invariant-loop-keys l = record {
  completes : (more : List KeyValue) → KeysFrom l.fn.text l.rest more → KeysFrom l.fn.text l.fn.text (map key_value l.keys.items ++ more);
  refuses : (error : KeyFileError) → FaultFrom l.fn.text l.rest error → FaultFrom l.fn.text l.fn.text error;
}

abbrev pub decreases-loop-keys : goal.decreases-loop-keys
decreases-loop-keys l = length l.rest
