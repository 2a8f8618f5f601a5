use Rattle.std.proofs.Common.{codes}
use Rattle.lookup_cli.specs.Command.{between, bound, number, option}
use Rattle.lookup_cli.proofs.command.with_time.Goals as goal

pub returns : goal.returns
returns c = λ app is.
    c.with_arg-2.ensures _ (number (codes "attempts") (between 1 1000))
    (c.with_arg-timed.ensures _ (option (codes "timeout"))
    (c.with_arg.ensures app (bound (option (codes "strategy"))) is c.strategy_option.ensures) c.option-timeout.ensures)
    c.attempts_option.ensures
