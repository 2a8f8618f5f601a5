use Rattle.std.proofs.Common.{◌≡◌, drop}
use Rattle.stub_script.specs.ScriptText.{after_blanks}
use Rattle.stub_script.proofs.reply_lines.after_blanks.Given as goal

-- only blanks so far
abbrev pub invariant-loop-i : goal.invariant-loop-i
invariant-loop-i l = after_blanks (drop l.i l.text) ≡ after_blanks l.text
