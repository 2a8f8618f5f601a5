use Rattle.std.proofs.Common.{◌≡◌, ◌++◌, drop, map}
use Rattle.std.specs.Prelude.{option_map}
use Rattle.stub_script.specs.ReplyLine.{message_content, messages_of}
use Rattle.stub_script.proofs.reply_line.read_messages.Given as goal

-- what was read stands in front of the messages of the words that are left
abbrev pub invariant-loop-word : goal.invariant-loop-word
invariant-loop-word l =
    messages_of (map (λ word. word.items) l.words)
    ≡ option_map (λ messages. map message_content l.messages.items ++ messages) (messages_of (map (λ word. word.items) (drop l.word-index l.words)))
