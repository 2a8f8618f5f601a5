use Rattle.std.proofs.Common.{◌≡◌, ◌++◌, drop}
use Rattle.std.specs.List.{filter}
use Rattle.stub_net.specs.scrub.Scrub.{is_soa_above}
use Rattle.stub_net.proofs.scrub.message.soa_above.Given as goal

-- those among the records that are left complete those that were copied
abbrev pub invariant-loop-authority : goal.invariant-loop-authority
invariant-loop-authority l = l.kept.items ++ filter (is_soa_above l.name) (drop l.authority-index l.authorities) ≡ filter (is_soa_above l.name) l.authorities
