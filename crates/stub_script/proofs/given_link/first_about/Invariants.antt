use Rattle.std.proofs.Common.{◌≡◌, drop}
use Rattle.stub_script.specs.GivenLink.{first_about}
use Rattle.stub_script.proofs.given_link.first_about.Given as goal

-- none so far
abbrev pub invariant-loop-reply : goal.invariant-loop-reply
invariant-loop-reply l =
    first_about l.line l.transport l.request (drop l.reply-index l.replies) ≡ first_about l.line l.transport l.request l.replies
