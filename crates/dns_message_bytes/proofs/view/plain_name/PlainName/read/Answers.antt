use Rattle.dns_message_bytes.proofs.PlainNameLaws.{whole_name, whole_labels, whole_read}
use Rattle.dns_message_bytes.proofs.view.plain_name.PlainName.read.Goals as goal

pub invariant_of-result : goal.invariant_of-result
invariant_of-result c = whole_name c.args.decoder.now c.pass_labels.new.decoder c.in-Some.label_count c.index-start.result c.slice_from.result.now c.in-Some.ensures.passed c.pass_labels.ensures.bytes c.index-start.ensures.value c.slice_from.ensures

pub returns-clause-read : goal.returns-clause-read
returns-clause-read c = whole_read c.args.decoder.now c.pass_labels.new.decoder c.in-Some.label_count c.index-start.result c.slice_from.result.now c.in-Some.ensures.passed c.pass_labels.ensures.bytes c.index-start.ensures.value c.slice_from.ensures

pub returns-clause-labels : goal.returns-clause-labels
returns-clause-labels c = whole_labels c.args.decoder.now c.pass_labels.new.decoder c.in-Some.label_count c.index-start.result c.slice_from.result.now c.in-Some.ensures.passed c.pass_labels.ensures.bytes c.index-start.ensures.value c.slice_from.ensures
