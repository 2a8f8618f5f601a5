use Rattle.stub_run.proofs.FailureLaws.{code-refuses, no-fault}
use Rattle.stub_run.proofs.laws.headline.lookups_fail_for_reasons.Goals as goal

pub returns-clause-link : goal.returns-clause-link
returns-clause-link c = λ ttls origin history settings at name kind fault. no-fault ttls origin history settings at kind name fault

pub returns-clause-code : goal.returns-clause-code
returns-clause-code c = λ ttls origin history settings faults at name kind code. code-refuses ttls origin history settings at kind faults name code
