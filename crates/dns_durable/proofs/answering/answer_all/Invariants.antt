use Rattle.std.proofs.Common.{◌≡◌, ◌++◌, ℕ, true, false, List, Option, length, map}
use Rattle.dns_message_bytes.specs.frames.Frame.{stream_of}
use Rattle.dns_zone.specs.Rows.{ZoneContent}
use Rattle.dns_durable.specs.Changes.{AreChanges, reply_bytes, reply_change}
use Rattle.dns_durable.specs.Durable.{TakesFront}
use Rattle.dns_durable.specs.Incoming.{AreJudged, changes_in}
use Rattle.dns_durable.specs.Reply.{AnswersAll}
use Rattle.dns_durable.specs.Rule.{step_of}
use Rattle.dns_durable.proofs.answering.answer_all.Given as goal

-- the replies to the requests that are left complete those that are made, and so do their updates
abbrev pub invariant-loop-rest : goal.invariant-loop-rest
invariant-loop-rest l =
    ((more : List (Option (List ℕ))) (end : List ZoneContent) → AnswersAll l.fn.policy l.fn.is_stored l.server l.rest more end
    → AnswersAll l.fn.policy l.fn.is_stored l.fn.server l.fn.admitted (map reply_bytes l.replies.items ++ more) end)
    × ((l.fn.is_stored ≡ true → (last : List ZoneContent) → TakesFront (step_of l.fn.policy.answering) l.server (stream_of (changes_in l.rest)) last → TakesFront (step_of l.fn.policy.answering) l.fn.server (stream_of (changes_in l.fn.admitted)) last)
    × ((l.fn.is_stored ≡ false → l.server ≡ l.fn.server) × (AreJudged l.fn.policy l.rest × AreChanges l.fn.server (map reply_change l.replies.items) l.server)))

abbrev pub decreases-loop-rest : goal.decreases-loop-rest
decreases-loop-rest l = length l.rest
