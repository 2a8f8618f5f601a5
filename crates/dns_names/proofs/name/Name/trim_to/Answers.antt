use Rattle.std.proofs.Common.{◌-◌, arith}
use Rattle.dns_names.proofs.PartsLaws.{name_len-drop}
use Rattle.dns_names.proofs.name.Name.trim_to.Goals as goal

pub push_labels-requires-clause-fits : goal.push_labels-requires-clause-fits
push_labels-requires-clause-fits c = rw c.root-name.ensures (omega (arith, name_len-drop (c.label_count-count.result - c.args.num_labels) c.args.self.now.labels, c.label_count-count.ensures.labels.fits))
