use Rattle.dns_names.proofs.ReverseLaws.{exact_names}
use Rattle.dns_names.proofs.name.Name.eq_case.Goals as goal

pub returns : goal.returns
returns c = rw (c.is_eq.ensures, c.cmp_case.ensures) (exact_names c.args.self.now c.args.other.now)
