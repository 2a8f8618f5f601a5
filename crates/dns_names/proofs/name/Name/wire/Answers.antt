use Rattle.std.proofs.Common.{◌∙◌}
use Rattle.dns_names.proofs.name.Name.wire.Goals as goal

pub returns-clause-form : goal.returns-clause-form
returns-clause-form c = rw (← c.self.view_is) (c.as_slice.ensures ∙ c.self.invariant.form)

pub returns-clause-labels : goal.returns-clause-labels
returns-clause-labels c = rw (← c.self.view_is) c.self.invariant.are
