use Rattle.nameserver_handlers.specs.Grants.RefusesKeys.{states_no_keys}
use Rattle.nameserver_handlers.proofs.PolicyLaws.{refused_for_one}
use Rattle.nameserver_handlers.proofs.policy.add_keys.Goals as goal

pub returns-in-Ok-2-clause-refused : goal.returns-in-Ok-2-clause-refused
returns-in-Ok-2-clause-refused c = refused_for_one c.args.text.now c.args.keys.now.items c.in-Ok.found.items c.add_all.result c.in-Ok.ensures.ok c.add_all.ensures.refused

pub returns-in_ok-format-in_default-clause-refused : goal.returns-in_ok-format-in_default-clause-refused
returns-in_ok-format-in_default-clause-refused c = λ has_memory. states_no_keys c.in-Err.error c.in_default.not-Memory (c.in-Err.ensures.refused c.in_default.not-Memory)
