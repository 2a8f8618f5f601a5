use Rattle.std.proofs.Common.{codes}
use Rattle.lookup_cli.specs.Command.{bound, flag, names_rule, option, with_short}
use Rattle.lookup_cli.proofs.command.with_items.Goals as goal

pub returns : goal.returns
returns c = λ app is.
    c.with_arg.ensures _ (bound (with_short 120 (flag (codes "reverse"))))
    (c.with_arg-typed.ensures _ (bound (with_short 116 (option (codes "type"))))
    (c.with_arg-named.ensures app names_rule is c.names.ensures) c.type_option.ensures) c.reverse_flag.ensures
