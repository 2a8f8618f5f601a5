use Rattle.dns_wire.proofs.PieceLaws.{emits_then, emits_stop}
use Rattle.dns_wire.proofs.laws.emissions_compose.Goals as goal

pub returns-clause-then : goal.returns-clause-then
returns-clause-then c = λ old middle new ps qs result end first second. emits_then old middle new ps qs result end first second

pub returns-clause-stop : goal.returns-clause-stop
returns-clause-stop c = λ old new ps qs error first. emits_stop old new ps qs error first
