use Rattle.dns_authority.proofs.ExistenceLaws.{nowhere_fails, fails_nowhere}
use Rattle.dns_authority.proofs.laws.names_fail_exactly_if_they_do_not_exist.Goals as goal

pub returns-clause-fails : goal.returns-clause-fails
returns-clause-fails c = fails_nowhere

pub returns-clause-exists : goal.returns-clause-exists
returns-clause-exists c = nowhere_fails
