use Rattle.std.proofs.Common.{codes}
use Rattle.lookup_cli.specs.Command.{between, bound, list, number, option}
use Rattle.lookup_cli.proofs.command.with_sources.Goals as goal

pub returns : goal.returns
returns c = λ app is.
    c.with_arg-3.ensures _ (bound (number (codes "ndots") (between 0 15)))
    (c.with_arg-2.ensures _ (bound (list (codes "search")))
    (c.with_arg-configured.ensures _ (option (codes "hosts"))
    (c.with_arg.ensures _ (option (codes "resolv-conf"))
    (c.with_arg-served.ensures app (list (codes "server")) is c.list-server.ensures) c.option-resolv_conf.ensures) c.option-hosts.ensures)
    c.search_option.ensures) c.ndots_option.ensures
