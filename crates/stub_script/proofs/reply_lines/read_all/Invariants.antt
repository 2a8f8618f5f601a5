use Rattle.std.proofs.Common.{map}
use Rattle.stub_script.specs.ReplyLine.{reply_content}
use Rattle.stub_script.proofs.ReplyLaws.{LeadsOn}
use Rattle.stub_script.proofs.reply_lines.read_all.Given as goal

-- the whole leads to what was read, and then to what the rest leads to
abbrev pub invariant-loop-i : goal.invariant-loop-i
invariant-loop-i l = LeadsOn l.types l.all l.i (map reply_content l.replies.items)
