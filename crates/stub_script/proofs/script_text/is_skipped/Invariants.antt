use Rattle.std.proofs.Common.{◌≡◌, drop}
use Rattle.stub_script.specs.ScriptText.{after_blanks}
use Rattle.stub_script.proofs.script_text.is_skipped.Given as goal

-- only blanks so far
abbrev pub invariant-loop-c : goal.invariant-loop-c
invariant-loop-c l = after_blanks (drop l.c-index l.line) ≡ after_blanks l.line
