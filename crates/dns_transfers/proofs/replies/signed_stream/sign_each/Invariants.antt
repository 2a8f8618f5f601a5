use Rattle.std.proofs.Common.{◌≡◌, length}
use Rattle.dns_transfers.proofs.SignedLaws.{AreSigned}
use Rattle.dns_transfers.proofs.replies.signed_stream.sign_each.Given as goal

-- the messages so far are signed
abbrev pub invariant-loop-message : goal.invariant-loop-message
invariant-loop-message l =
    (length l.messages ≡ length l.initial.messages)
    × AreSigned l.key l.time l.request_code l.initial.messages l.message-index l.signer l.messages
