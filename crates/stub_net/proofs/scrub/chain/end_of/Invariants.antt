use Rattle.std.proofs.Common.{◌≡◌, ◌-◌}
use Rattle.stub_net.specs.scrub.Scrub.{end_from, end_of, max_aliases}
use Rattle.stub_net.proofs.scrub.chain.end_of.Given as goal

-- the aliases that may still follow lead from this name to the end
abbrev pub invariant-loop-followed : goal.invariant-loop-followed
invariant-loop-followed l = end_from (max_aliases l.query - l._followed) l.query l.answers l.name ≡ end_of l.query l.answers
