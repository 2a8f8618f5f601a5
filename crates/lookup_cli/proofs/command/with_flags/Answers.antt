use Rattle.std.proofs.Common.{codes}
use Rattle.lookup_cli.specs.Command.{bound, flag}
use Rattle.lookup_cli.proofs.command.with_flags.Goals as goal

pub returns : goal.returns
returns c = λ app is.
    c.with_arg.ensures _ (flag (codes "trace"))
    (c.with_arg-as_json.ensures _ (flag (codes "json"))
    (c.with_arg-fresh.ensures _ (bound (flag (codes "no-cache")))
    (c.with_arg-plain.ensures _ (bound (flag (codes "no-edns")))
    (c.with_arg-in_turn.ensures _ (flag (codes "rotate"))
    (c.with_arg-over_tcp.ensures app (flag (codes "tcp")) is c.flag.ensures) c.flag-2.ensures)
    (c.without_update.ensures (flag (codes "no-edns")) c.flag-no_edns.ensures))
    (c.without_update-2.ensures (flag (codes "no-cache")) c.flag-no_cache.ensures)) c.flag-3.ensures) c.flag-trace.ensures
