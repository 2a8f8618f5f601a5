use Rattle.std.proofs.Common.{◌∙◌, sym, ap, []}
use Rattle.dns_differences.specs.History.{last_serial}
use Rattle.dns_differences.proofs.HistoryLaws.{last_behind}
use Rattle.dns_differences.proofs.history.last_serial.Goals as goal

pub returns-in-Some : goal.returns-in-Some
returns-in-Some c =
    c.new_serial.ensures
    ∙ sym (ap last_serial c.in-Some.ensures.cases.0 ∙ last_behind c.in-Some._older.now c.in-Some.last.now [])
