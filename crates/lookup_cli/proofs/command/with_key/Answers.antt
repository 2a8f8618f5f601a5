use Rattle.std.proofs.Common.{codes}
use Rattle.lookup_cli.specs.Command.{bound, option}
use Rattle.lookup_cli.proofs.command.with_key.Goals as goal

pub returns : goal.returns
returns c = λ app is.
    c.with_arg.ensures _ (bound (option (codes "key-name")))
    (c.with_arg-signed.ensures app (bound (option (codes "key"))) is (c.requiring.ensures (option (codes "key")) c.option-key.ensures))
    (c.requiring-2.ensures (option (codes "key-name")) c.option-name.ensures)
