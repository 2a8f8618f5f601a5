use Rattle.dns_names.proofs.CaseLaws.{tested}
use Rattle.dns_message_bytes.proofs.view.plain_name.compare.PlainNamePartialEq.eq.Goals as goal

pub returns : goal.returns
returns c =
    rw (c.label_bytes.ensures.fqdn, c.label_bytes-2.ensures.fqdn)
    (tested _ _ c.args.self.now.labels c.args.other.now.labels c.eq_ignore_ascii_case.result
    c.label_bytes.ensures.form c.label_bytes-2.ensures.form c.label_bytes.ensures.labels.each c.label_bytes-2.ensures.labels.each
    c.eq_ignore_ascii_case.ensures.test)
