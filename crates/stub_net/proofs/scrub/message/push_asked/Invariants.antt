use Rattle.std.proofs.Common.{◌≡◌, ◌++◌, drop}
use Rattle.std.specs.List.{filter}
use Rattle.stub_net.specs.scrub.Scrub.{is_asked}
use Rattle.stub_net.proofs.scrub.message.push_asked.Given as goal

-- those among the answers that are left complete those that were appended
abbrev pub invariant-loop-answer : goal.invariant-loop-answer
invariant-loop-answer l =
    l.kept.items ++ filter (is_asked l.query l.name) (drop l.answer-index l.answers) ≡ l.initial.kept.items ++ filter (is_asked l.query l.name) l.answers
