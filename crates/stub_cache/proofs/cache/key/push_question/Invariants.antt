use Rattle.std.proofs.Common.{◌≡◌, ◌≤◌, ◌++◌, length}
use Rattle.stub_cache.specs.internal.Key.{key_of, labels_key}
use Rattle.stub_cache.proofs.cache.key.push_question.Given as goal

-- the labels that are left complete the key
abbrev pub invariant-loop-label : goal.invariant-loop-label
invariant-loop-label l = record {
  whole : l.key.items ++ labels_key l.label-iterator ≡ key_of l.query;
  begun : 5 ≤ length l.key.items;
}
