use Rattle.std.proofs.Common.{◌≡◌, ◌++◌, drop, map, string_bytes}
use Rattle.stub_script.specs.ReplyLines.{events_text}
use Rattle.stub_script.proofs.reply_lines.join_events.Given as goal

-- what was written stands in front of the text of the lines that are left
abbrev pub invariant-loop-line : goal.invariant-loop-line
invariant-loop-line l =
    events_text (map (λ line. line.now) l.all) ≡ string_bytes l.events ++ events_text (map (λ line. line.now) (drop l.line-index l.all))
