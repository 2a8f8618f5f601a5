use Rattle.std.proofs.Common.{◌≡◌, ◌++◌, drop, take, length}
use Rattle.stub_script.specs.GivenLink.{bytes_of, messages_bytes}
use Rattle.stub_script.proofs.given_link.push_messages.Given as goal

-- the messages so far were appended
abbrev pub invariant-loop-message : goal.invariant-loop-message
invariant-loop-message l = record {
  appended : bytes_of l.fn.waiting ++ messages_bytes l.id l.messages ≡ bytes_of l.waiting ++ messages_bytes l.id (drop l.message-index l.messages);
  kept : take (length l.fn.waiting.items) l.waiting.items ≡ l.fn.waiting.items;
}
