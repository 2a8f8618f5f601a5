use Rattle.std.proofs.Common.{arith}
use Rattle.dns_names.proofs.PartsLaws.{few_labels}
use Rattle.dns_names.proofs.name.Name.num_labels.Goals as goal

pub overflow_cast-count : goal.overflow_cast-count
overflow_cast-count c = omega (arith, few_labels c.args.self.now.labels c.label_count-count.ensures.labels)
