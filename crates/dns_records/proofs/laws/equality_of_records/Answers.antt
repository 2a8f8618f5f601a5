use Rattle.dns_records.specs.internal.Equality.{same_record-equivalence}
use Rattle.dns_records.proofs.laws.equality_of_records.Goals as goal

pub returns-clause-equivalence : goal.returns-clause-equivalence
returns-clause-equivalence g c = same_record-equivalence g.met.R.Eq.laws
