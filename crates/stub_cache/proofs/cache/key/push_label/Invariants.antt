use Rattle.std.proofs.Common.{◌≡◌, ◌++◌, ◌+◌, drop, length}
use Rattle.std.specs.Str.{str_to_ascii_lowercase}
use Rattle.stub_cache.specs.internal.Key.{label_key}
use Rattle.stub_cache.proofs.cache.key.push_label.Given as goal

-- the bytes that are left complete the label
abbrev pub invariant-loop-byte : goal.invariant-loop-byte
invariant-loop-byte l = record {
  whole : l.key.items ++ str_to_ascii_lowercase (drop l.byte-index l.label) ≡ l.fn.key.items ++ label_key l.label;
  len : length l.key.items ≡ length l.fn.key.items + 1 + l.byte-index;
}
