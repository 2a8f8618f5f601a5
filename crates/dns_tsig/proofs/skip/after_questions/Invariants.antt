use Rattle.std.proofs.Common.{◌≡◌, ◌-◌}
use Rattle.dns_tsig.specs.Skip.{after_questions}
use Rattle.dns_tsig.proofs.skip.after_questions.Given as goal

-- the questions that are left end where all do
abbrev pub invariant-loop : goal.invariant-loop
invariant-loop l = after_questions (l.count - l.counter) l.rest ≡ after_questions l.fn.count l.fn.bytes
