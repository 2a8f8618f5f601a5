use Rattle.std.proofs.Common.{drop}
use Rattle.dns_names.proofs.CaseLaws.{each-drop, tested}
use Rattle.dns_names.proofs.name.Name.ends_in.Goals as goal

pub returns : goal.returns
returns c =
    tested _ _ c.args.other.now.labels (drop c.args.skipped c.args.self.now.labels) c.eq_ignore_ascii_case.result
    c.wire.ensures.form c.wire_after.ensures.value c.wire.ensures.labels.each (each-drop c.args.skipped _ c.wire_after.ensures.labels.each)
    c.eq_ignore_ascii_case.ensures.test
