use Rattle.std.proofs.Common.{◌≡◌, drop}
use Rattle.stub_net.specs.scrub.Scrub.{alias_in}
use Rattle.stub_net.proofs.scrub.chain.alias_in.Given as goal

-- the first alias is among the answers that are left
abbrev pub invariant-loop-answer : goal.invariant-loop-answer
invariant-loop-answer l = alias_in l.query l.name (drop l.answer-index l.answers) ≡ alias_in l.query l.name l.answers
