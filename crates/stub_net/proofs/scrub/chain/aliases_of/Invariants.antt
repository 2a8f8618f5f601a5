use Rattle.std.proofs.Common.{◌≡◌, ◌-◌, ◌++◌}
use Rattle.stub_net.specs.scrub.Scrub.{aliases_from, aliases_of, max_aliases}
use Rattle.stub_net.proofs.scrub.chain.aliases_of.Given as goal

-- the aliases that may still follow this name complete those that were copied
abbrev pub invariant-loop-followed : goal.invariant-loop-followed
invariant-loop-followed l = l.aliases.items ++ aliases_from (max_aliases l.query - l._followed) l.query l.answers l.name ≡ aliases_of l.query l.answers
