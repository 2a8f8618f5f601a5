use Rattle.std.proofs.Common.{◌-◌, arith}
use Rattle.dns_names.proofs.PartsLaws.{front_of, drop_front}
use Rattle.dns_names.proofs.name.Name.zone_of_case.Goals as goal

pub returns-then-own-others : goal.returns-then-own-others
returns-then-own-others c = (
  λ t. front_of c.args.self.now.labels c.args.name.now.labels (c.label_count-others.result - c.label_count-own.result) (c.ends_in_case.ensures.0 t),
  λ f. c.ends_in_case.ensures.1 (drop_front c.args.self.now.labels c.args.name.now.labels f.0 (c.label_count-others.result - c.label_count-own.result) (omega arith) f.1),
)
