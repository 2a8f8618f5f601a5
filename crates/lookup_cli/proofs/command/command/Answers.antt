use Rattle.lookup_cli.specs.Command.{bare_app}
use Rattle.lookup_cli.proofs.command.command.Goals as goal

pub returns : goal.returns
returns c =
    (c.with_flags.ensures _ (c.with_key.ensures _ (c.with_update.ensures _ (c.with_time-sources.ensures _ (c.with_sources.ensures _
    (c.with_items-items.ensures bare_app (record { app_is = c.bare_command.ensures }))))))).app_is
