use Rattle.std.proofs.Common.{◌≡◌, drop, false}
use Rattle.stub_client.specs.Step.{chain_over}
use Rattle.stub_client.proofs.caching_client.chain.chain_over.Given as goal

-- the aliases so far, and the answers that are left
abbrev pub invariant-loop-answer : goal.invariant-loop-answer
invariant-loop-answer l =
    chain_over (record { name = l.end; ttl = l.ttl; is_alias = l.is_alias }) (drop l.answer-index l.answers)
    ≡ chain_over (record { name = l.name; ttl = 86400; is_alias = false }) l.answers
