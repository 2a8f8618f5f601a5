use Rattle.std.specs.Prelude.{map}
use Rattle.stub_hosts.proofs.LinesLaws.{LinesBefore}
use Rattle.stub_hosts.proofs.hosts.Hosts.read_hosts_conf.Given as goal

abbrev pub invariant-loop-line : goal.invariant-loop-line
invariant-loop-line l = LinesBefore l.now l.fn.self l.self (map (λ x. x.now) l.yielded)
