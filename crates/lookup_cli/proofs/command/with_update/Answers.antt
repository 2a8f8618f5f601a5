use Rattle.std.proofs.Common.{codes}
use Rattle.lookup_cli.specs.Command.{bound, option}
use Rattle.lookup_cli.proofs.command.with_update.Goals as goal

pub returns : goal.returns
returns c = λ app is.
    c.with_arg.ensures _ (bound (option (codes "zone")))
    (c.with_arg-updated.ensures app (bound (option (codes "update"))) is (c.requiring.ensures (option (codes "update")) c.option-update.ensures))
    (c.requiring-2.ensures (option (codes "zone")) c.option-zone.ensures)
