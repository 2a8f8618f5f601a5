use Rattle.std.proofs.Common.{◌≡◌, ◌++◌, drop, take}
use Rattle.stub_script.specs.ReplyLines.{first_word}
use Rattle.stub_script.proofs.reply_lines.first_word.Given as goal

-- no blank so far
abbrev pub invariant-loop-i : goal.invariant-loop-i
invariant-loop-i l = first_word l.text ≡ take l.i l.text ++ first_word (drop l.i l.text)
