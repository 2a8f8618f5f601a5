use Rattle.dns_wire.proofs.PieceLaws.{can_roll_back-append, can_roll_back-trans, roll_back-restores}
use Rattle.dns_wire.proofs.laws.roll_back_composes.Goals as goal

pub returns-clause-further : goal.returns-clause-further
returns-clause-further c = λ old middle new on first second. can_roll_back-trans old middle new on first second

pub returns-clause-written : goal.returns-clause-written
returns-clause-written c = λ w ps end. can_roll_back-append w ps end

pub returns-clause-restores : goal.returns-clause-restores
returns-clause-restores c = λ old new end behind back. roll_back-restores old new end behind back
