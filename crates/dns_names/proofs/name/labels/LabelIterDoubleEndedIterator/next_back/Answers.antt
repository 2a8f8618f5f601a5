use Rattle.std.proofs.Common.{sym, ◌∙◌, arith}
use Rattle.dns_names.proofs.IterLaws.{range-last}
use Rattle.dns_names.proofs.name.labels.LabelIterDoubleEndedIterator.next_back.Goals as goal

pub returns-clause-steps : goal.returns-clause-steps
returns-clause-steps c = sym c.self.view_is ∙ range-last _ c.self.inside.start c.self.inside.end c.label_at.result.now (omega arith) c.label_at.ensures
