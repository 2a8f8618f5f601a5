use Rattle.dns_names.proofs.ReverseLaws.{exact_labels}
use Rattle.dns_names.proofs.name.Name.eq_ignore_root_case.Goals as goal

pub returns : goal.returns
returns c = rw (c.is_eq.ensures, c.cmp_labels.ensures) (exact_labels c.args.self.now.labels c.args.other.now.labels)
