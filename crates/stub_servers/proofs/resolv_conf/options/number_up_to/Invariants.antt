use Rattle.std.proofs.Common.{◌≡◌, ◌≤◌, drop}
use Rattle.std.specs.Prelude.{min}
use Rattle.stub_servers.specs.resolv_conf.Options.{number_from}
use Rattle.stub_servers.proofs.resolv_conf.options.number_up_to.Given as goal

-- the rest of the text completes the number
abbrev pub invariant-loop-octet : goal.invariant-loop-octet
invariant-loop-octet l = record {
  bound : l.number ≤ l.greatest;
  completes : min l.greatest (number_from l.number (drop l.octet-index l.text)) ≡ min l.greatest (number_from 0 l.text);
}
