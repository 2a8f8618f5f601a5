use Rattle.dns_names.proofs.CaseLaws.{tested}
use Rattle.dns_names.proofs.name.Name.eq_ignore_root.Goals as goal

pub returns : goal.returns
returns c =
    tested _ _ c.args.self.now.labels c.args.other.now.labels c.eq_ignore_ascii_case.result
    c.wire.ensures.form c.wire-2.ensures.form c.wire.ensures.labels.each c.wire-2.ensures.labels.each
    c.eq_ignore_ascii_case.ensures.test
